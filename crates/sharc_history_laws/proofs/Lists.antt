-- Histories that grow by one event: those of a run, the newest event first, and as the rules have them.
use Rattle.sharc_history_laws.proofs.Imports.{◌≡◌, ℕ, Bool, true, false, ◌||◌, cond, List, [], ◌∷◌, ◌++◌, reverse, Some, refl, sym, ap, ◌∙◌, subst, ⊎_elim, ◌⊎◌, inl, inr, reverse-append, reverse-reverse, ◌==◌, find, SourceEvent, Access, Stands, latest, makes, frees, begins, History, IsAccess, meets, is_live}
use Rattle.sharc_tree.specs.declared.event.Object.TheVariants.{Made}

abbrev pub Newest : Type 0
Newest = List SourceEvent

-- ---- the last event of a kind
pub latest_is : (test : SourceEvent → Bool) (L : Newest) → latest test (reverse L) ≡ find test L
latest_is test L = ap (find test) (reverse-reverse L)

-- ---- splits of a history whose last event is this
pub data Split (e : SourceEvent) (L : Newest) (before : History) (d : SourceEvent) (after : History) : Type 0 where
  Last : before ≡ reverse L → d ≡ e → after ≡ [] → Split e L before d after
  Earlier : (rest : History) → after ≡ rest ++ e ∷ [] → reverse L ≡ before ++ d ∷ rest → Split e L before d after

pub reverse_push : (e : SourceEvent) (L : Newest) → reverse (e ∷ L) ≡ reverse L ++ e ∷ []
reverse_push e L = reverse-append (e ∷ []) L

module _ (e : SourceEvent) where
  abbrev Parts : History → History → SourceEvent → History → Type 0
  Parts xs before d after = ((before ≡ xs) × (d ≡ e) × (after ≡ [])) ⊎ ((rest : History) × (after ≡ rest ++ e ∷ []) × (xs ≡ before ++ d ∷ rest))

  parts : (xs before : History) (d : SourceEvent) (after : History) → xs ++ e ∷ [] ≡ before ++ d ∷ after → Parts xs before d after
  parts [] [] d after q = let a : e ≡ d = cc in let b : after ≡ [] = cc in inl (refl, sym a, b)
  parts [] (b ∷ []) d after q = absurd (cc)
  parts [] (b ∷ c ∷ bs) d after q = absurd (cc)
  parts (y ∷ xs) [] d after q = let a : y ≡ d = cc in let b : xs ++ e ∷ [] ≡ after = cc in inr (xs, sym b, ap (λ z. z ∷ xs) a)
  parts (y ∷ xs) (b ∷ bs) d after q =
      let a : y ≡ b = cc in
      let rest : xs ++ e ∷ [] ≡ bs ++ d ∷ after = cc in
      ⊎_elim
      (λ (h : (bs ≡ xs) × (d ≡ e) × (after ≡ [])). inl (ap (λ z. z ∷ bs) (sym a) ∙ ap (λ zs. y ∷ zs) h.0, h.1, h.2))
      (λ (h : (rest : History) × (after ≡ rest ++ e ∷ []) × (xs ≡ bs ++ d ∷ rest)). inr (h.0, h.1, ap (λ zs. y ∷ zs) h.2 ∙ ap (λ z. z ∷ (bs ++ d ∷ h.0)) a))
      (parts xs bs d after rest)

pub split : (e : SourceEvent) (L : Newest) (before : History) (d : SourceEvent) (after : History) → Stands (reverse (e ∷ L)) before d after → Split e L before d after
split e L before d after h = ⊎_elim
    (λ (k : (before ≡ reverse L) × (d ≡ e) × (after ≡ [])). Last k.0 k.1 k.2)
    (λ (k : (rest : History) × (after ≡ rest ++ e ∷ []) × (reverse L ≡ before ++ d ∷ rest)). Earlier k.0 k.1 k.2)
    (parts e (reverse L) before d after (sym (reverse_push e L) ∙ h))

-- ---- what holds of each event, or of each access
abbrev pub Each : (History → SourceEvent → Type 0) → History → Type 0
Each P R = (before : History) (e : SourceEvent) (after : History) → Stands R before e after → P before e

abbrev pub OfAccess : (History → SourceEvent → Access → Type 0) → History → SourceEvent → Type 0
OfAccess P before e = (a : Access) → IsAccess e a → P before e a

pub no_event : (P : History → SourceEvent → Type 0) → Each P []
no_event P [] e after h = absurd (cc)
no_event P (b ∷ bs) e after h = absurd (cc)

pub each_push : (P : History → SourceEvent → Type 0) (e : SourceEvent) (L : Newest) → Each P (reverse L) → P (reverse L) e → Each P (reverse (e ∷ L))
each_push P e L old new before d after h = by (split e L before d after h)
  where
    by : Split e L before d after → P before d
    by (Last b s n) = subst (λ b. P b d) (sym b) (subst (P (reverse L)) (sym s) new)
    by (Earlier rest n s) = old before d rest s

-- ---- objects
abbrev pub live_in : Newest → ℕ → Bool
live_in L n = meets (makes (Made n)) (find (λ e. makes (Made n) e || frees (Made n) e) L)

abbrev pub owned_in : Newest → ℕ → ℕ → Bool
owned_in L n t = meets (λ e. e.thread == t) (find (begins (Made n)) L)

pub is_live_in : (L : Newest) (n : ℕ) → is_live (reverse L) (Made n) ≡ live_in L n
is_live_in L n = ap (meets (makes (Made n))) (latest_is (λ e. makes (Made n) e || frees (Made n) e) L)

pub owned_is : (L : Newest) (n t : ℕ) → meets (λ e. e.thread == t) (latest (begins (Made n)) (reverse L)) ≡ owned_in L n t
owned_is L n t = ap (meets (λ e. e.thread == t)) (latest_is (begins (Made n)) L)

-- an event that makes the object
pub live_made : (e : SourceEvent) (L : Newest) (n : ℕ) → makes (Made n) e ≡ true → live_in (e ∷ L) n ≡ true
live_made e L n is = ap (λ b. meets (makes (Made n)) (cond (b || frees (Made n) e) (Some e) (find (λ e. makes (Made n) e || frees (Made n) e) L))) is ∙ is

-- one that neither makes nor frees it
pub live_other : (e : SourceEvent) (L : Newest) (n : ℕ) → makes (Made n) e ≡ false → frees (Made n) e ≡ false → live_in (e ∷ L) n ≡ live_in L n
live_other e L n a b =
    ap (λ b. meets (makes (Made n)) (cond (b || frees (Made n) e) (Some e) (find (λ e. makes (Made n) e || frees (Made n) e) L))) a
    ∙ ap (λ b. meets (makes (Made n)) (cond b (Some e) (find (λ e. makes (Made n) e || frees (Made n) e) L))) b

pub owned_begun : (e : SourceEvent) (L : Newest) (n : ℕ) → begins (Made n) e ≡ true → owned_in (e ∷ L) n e.thread ≡ (e.thread == e.thread)
owned_begun e L n is = ap (λ b. meets (λ d. d.thread == e.thread) (cond b (Some e) (find (begins (Made n)) L))) is

pub owned_other : (e : SourceEvent) (L : Newest) (n t : ℕ) → begins (Made n) e ≡ false → owned_in (e ∷ L) n t ≡ owned_in L n t
owned_other e L n t is = ap (λ b. meets (λ d. d.thread == t) (cond b (Some e) (find (begins (Made n)) L))) is
