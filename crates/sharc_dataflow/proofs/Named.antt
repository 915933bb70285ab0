-- What a path nulls, a step nulls.
use Rattle.sharc_dataflow.proofs.Imports.{◌≡◌, ℕ, List, [], ◌∷◌, ◌++◌, ◌⊎◌, inl, inr, Contains, refl, ap, sym, subst, ◌∙◌, append_assoc, Contains-append_left, Contains-append_right, Contains-push, Step, Act, Nulls, From, Start, To, Next, Piece, Goes, goes, before, Does, done, ended, before as not_yet, Then, through, leaves, late as behind, Caught, on, as_is, Loop, left, ended as loop_ended, again, Hits, Code, goes_to, acts, first_then, one_of, catches, repeats, paths, listing, step_of, nulled_at, all_nulled}

abbrev pub NullIn : ℕ → List Act → Type 0
NullIn x [] = ⊥
NullIn x (a ∷ l) = ((k : ℕ) × (a ≡ Nulls x k)) ⊎ NullIn x l

null_cases : (x : ℕ) (l m : List Act) → NullIn x (l ++ m) → NullIn x l ⊎ NullIn x m
null_cases x [] m h = inr h
null_cases x (a ∷ l) m (inl h) = inl (inl h)
null_cases x (a ∷ l) m (inr h) = elim (null_cases x l m h) [ inl i ↦ inl (inr i) | inr i ↦ inr i ]

pub hit_nulls : (x k r : ℕ) (l : List Act) → Hits x k r l → NullIn x l
hit_nulls x k r [] h = h
hit_nulls x k r (a ∷ l) (inl h) = inl (k, h.0)
hit_nulls x k r (a ∷ l) (inr h) = inr (hit_nulls x k r l h)

pub nulled_append : (a b : List Step) → all_nulled (a ++ b) ≡ all_nulled a ++ all_nulled b
nulled_append [] b = refl
nulled_append (s ∷ a) b = ap (λ z. nulled_at s ++ z) (nulled_append a b) ∙ sym (append_assoc (nulled_at s) (all_nulled a) (all_nulled b))

module _ (x : ℕ) where
  abbrev InSteps : List Step → Type 0
  InSteps l = Contains (all_nulled l) x

  in_first : (a b : List Step) → InSteps a → InSteps (a ++ b)
  in_first a b h = subst (λ l. Contains l x) (sym (nulled_append a b)) (Contains-append_left (all_nulled a) (all_nulled b) x h)

  in_second : (a b : List Step) → InSteps b → InSteps (a ++ b)
  in_second a b h = subst (λ l. Contains l x) (sym (nulled_append a b)) (Contains-append_right (all_nulled a) (all_nulled b) x h)

  in_act : (a : Act) → NullIn x (a ∷ []) → InSteps (step_of a ∷ [])
  in_act a (inl h) = subst (λ b. InSteps (step_of b ∷ [])) (sym h.1) (Contains-push [] x)
  in_act a (inr h) = absurd h

  in_goes : (t : To) (f : From) (u : To) (l : List Act) → Goes t f u l → NullIn x l → ⊥
  in_goes t f u l goes h = h
  in_goes t f u l before h = h

  in_does : (a : Act) (f : From) (u : To) (l : List Act) → Does a f u l → NullIn x l → InSteps (step_of a ∷ [])
  in_does a f u l not_yet h = absurd h
  in_does a f u l _ h = in_act a h

  in_then : (A B : Piece) (X : Type 0) → ((f : From) (t : To) (l : List Act) → A f t l → NullIn x l → X) → ((f : From) (t : To) (l : List Act) → B f t l → NullIn x l → X) → (f : From) (t : To) (l : List Act) → Then A B f t l → NullIn x l → X
  in_then A B X ia ib f t l (through {l = l1} {m = m} p q) h = elim (null_cases x l1 m h) [ inl i ↦ ia f Next l1 p i | inr i ↦ ib Start t m q i ]
  in_then A B X ia ib f t l (leaves w p) h = ia f t l p h
  in_then A B X ia ib f t l (behind q) h = ib _ t l q h

  in_caught : (A : Piece) (X : Type 0) → ((f : From) (t : To) (l : List Act) → A f t l → NullIn x l → X) → (f : From) (t : To) (l : List Act) → Caught A f t l → NullIn x l → X
  in_caught A X ia f t l (on p) h = ia f _ l p h
  in_caught A X ia f t l (as_is p) h = ia f t l p h

  in_loop : (A : Piece) (X : Type 0) → ((f : From) (t : To) (l : List Act) → A f t l → NullIn x l → X) → (f : From) (t : To) (l : List Act) → Loop A f t l → NullIn x l → X
  in_loop A X ia f t l (left p) h = ia f _ l p h
  in_loop A X ia f t l (loop_ended p) h = ia f _ l p h
  in_loop A X ia f t l (again {l = l1} {m = m} p q) h = found (in_loop A X ia Start t m q) (null_cases x l1 m h)
    where
      found : (NullIn x m → X) → NullIn x l1 ⊎ NullIn x m → X
      found ih (inl i) = ia f Next l1 p i
      found ih (inr i) = ih i

  in_either : (A B : Piece) (X : Type 0) → ((f : From) (t : To) (l : List Act) → A f t l → NullIn x l → X) → ((f : From) (t : To) (l : List Act) → B f t l → NullIn x l → X) → (f : From) (t : To) (l : List Act) → A f t l ⊎ B f t l → NullIn x l → X
  in_either A B X ia ib f t l (inl p) h = ia f t l p h
  in_either A B X ia ib f t l (inr p) h = ib f t l p h

  pub in_code : (c : Code) (f : From) (t : To) (l : List Act) → paths c f t l → NullIn x l → InSteps (listing c)
  in_code (goes_to u) f t l p h = absurd (in_goes u f t l p h)
  in_code (acts a) f t l p h = in_does a f t l p h
  in_code (first_then a b) f t l p h =
      in_then (paths a) (paths b) (InSteps (listing a ++ listing b)) (λ f t l p h. in_first (listing a) (listing b) (in_code a f t l p h)) (λ f t l p h. in_second (listing a) (listing b) (in_code b f t l p h)) f t l p h
  in_code (one_of a b) f t l p h =
      let rest = Step.Other ∷ (listing b ++ Step.Join ∷ []) in
      in_either (paths a) (paths b) (InSteps (listing (one_of a b))) (λ f t l p h. in_first (listing a) rest (in_code a f t l p h)) (λ f t l p h. in_second (listing a) rest (in_first (listing b) (Step.Join ∷ []) (in_code b f t l p h))) f t l p h
  in_code (catches a) f t l p h = in_caught (paths a) (InSteps (listing (catches a))) (λ f t l p h. in_first (listing a) (Step.Caught ∷ []) (in_code a f t l p h)) f t l p h
  in_code (repeats a) f t l p h = in_loop (paths a) (InSteps (listing (repeats a))) (λ f t l p h. in_first (listing a) (Step.Again ∷ []) (in_code a f t l p h)) f t l p h
