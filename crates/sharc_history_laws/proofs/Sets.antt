-- Access sets by a history with its newest event first.
use Rattle.sharc_history_laws.proofs.{Imports.{◌≡◌, ℕ, ◌≢◌, Bool, true, false, ◌||◌, ◌&&◌, cond, [], ◌∷◌, ◌++◌, reverse, refl, sym, ap, ◌∙◌, subst, ⊎_elim, ◌⊎◌, inl, inr, if◌then◌else◌, list_any, SourceEvent, Dynamic, Object, Access, granule_in as granule_of, begins, is_of, events_of, History, IsAccess, AccessSet, until_return, ends, ReadSharedOrOwn, or_first, or_parts}, Lists.{Newest, Split, Last, Earlier, split, reverse_push}}

-- the event is an access of mode dynamic to that granule, by this thread, and a write or not
pub record IsHere (e : SourceEvent) (o : Object) (granule t : ℕ) (write : Bool) : Type 0 where
  pub access : Access
  pub is : IsAccess e access
  pub object : access.cell.object ≡ o
  pub granule_is : granule_of access.cell ≡ granule
  pub dynamic : access.mode ≡ Dynamic
  pub thread : e.thread ≡ t
  pub kind : access.is_write ≡ write

-- behind it the accesses of thread t count on
abbrev pub Goes : SourceEvent → ℕ → Type 0
Goes e t = (is_of t e && ends until_return e.act) ≡ false

abbrev pub InSet : Newest → Object → (granule t : ℕ) → Bool → Type 0
InSet [] o granule t write = ⊥
InSet (e ∷ L) o granule t write = IsHere e o granule t write ⊎ ((begins o e ≡ false) × Goes e t × InSet L o granule t write)

pub any_append : (test : SourceEvent → Bool) (xs : History) (e : SourceEvent) → list_any test (xs ++ e ∷ []) ≡ false → (list_any test xs ≡ false) × (test e ≡ false)
any_append test [] e h = (refl, or_first (test e) false h)
any_append test (y ∷ ys) e h =
    let k = or_parts (test y) (list_any test (ys ++ e ∷ [])) h in
    let r = any_append test ys e k.1 in
    (ap (λ b. b || list_any test ys) k.0 ∙ r.0, r.1)

pub own_append : (t : ℕ) (xs : History) (e : SourceEvent) → events_of t (xs ++ e ∷ []) ≡ (if is_of t e then events_of t xs ++ e ∷ [] else events_of t xs)
own_append t [] e = elim (is_of t e) as (λ b. is_of t e ≡ b → cond b (e ∷ []) [] ≡ (if b then e ∷ [] else [])) [ true ↦ λ q. refl | false ↦ λ q. refl ] refl
own_append t (y ∷ ys) e =
    ap (λ zs. cond (is_of t y) (y ∷ zs) zs) (own_append t ys e)
    ∙ elim (is_of t y) as (λ a. cond a (y ∷ (if is_of t e then events_of t ys ++ e ∷ [] else events_of t ys)) (if is_of t e then events_of t ys ++ e ∷ [] else events_of t ys)
    ≡ (if is_of t e then cond a (y ∷ events_of t ys) (events_of t ys) ++ e ∷ [] else cond a (y ∷ events_of t ys) (events_of t ys))) [
      | true ↦ elim (is_of t e) as (λ b. y ∷ (if b then events_of t ys ++ e ∷ [] else events_of t ys) ≡ (if b then y ∷ (events_of t ys ++ e ∷ []) else y ∷ events_of t ys)) [ true ↦ refl | false ↦ refl ]
      | false ↦ refl
    ]

own_goes : (t : ℕ) (xs : History) (e : SourceEvent) → list_any (λ d. ends until_return d.act) (events_of t (xs ++ e ∷ [])) ≡ false → (list_any (λ d. ends until_return d.act) (events_of t xs) ≡ false) × Goes e t
own_goes t xs e h = elim (is_of t e) as (λ b. list_any (λ d. ends until_return d.act) (if b then events_of t xs ++ e ∷ [] else events_of t xs) ≡ false → (list_any (λ d. ends until_return d.act) (events_of t xs) ≡ false) × ((b && ends until_return e.act) ≡ false)) [
  | true ↦ λ k. any_append (λ d. ends until_return d.act) (events_of t xs) e k
  | false ↦ λ k. (k, refl)
] (ap (list_any (λ d. ends until_return d.act)) (sym (own_append t xs e)) ∙ h)

-- what stands in an access set stands there
pub in_set : (L : Newest) (o : Object) (granule : ℕ) (e : SourceEvent) (a : Access) → AccessSet (reverse L) o granule until_return e a → InSet L o granule e.thread a.is_write
in_set [] o granule e a h = none h.before h.stands
  where
    none : (before : History) → [] ≡ before ++ e ∷ h.after → ⊥
    none [] q = cc
    none (b ∷ bs) q = cc
in_set (d ∷ L) o granule e a h = by (λ k. in_set L o granule e a k) (split d L h.before e h.after h.stands)
  where
    by : (AccessSet (reverse L) o granule until_return e a → InSet L o granule e.thread a.is_write) → Split d L h.before e h.after → InSet (d ∷ L) o granule e.thread a.is_write
    by back (Last b same n) = inl (record {
      access = a;
      is = subst (λ (d : SourceEvent). IsAccess d a) same h.access;
      object = h.object;
      granule_is = h.granule_is;
      dynamic = h.is_dynamic;
      thread = ap (λ (d : SourceEvent). d.thread) (sym same);
      kind = refl;
    })
    by back (Earlier rest after stands) =
        let begun = any_append (begins o) rest d (ap (list_any (begins o)) (sym after) ∙ h.begun) in
        let ended = own_goes e.thread rest d (ap (λ xs. list_any (λ d. ends until_return d.act) (events_of e.thread xs)) (sym after) ∙ h.ended) in
        inr (
          begun.1,
          ended.1,
          back (record {
            before = h.before;
            after = rest;
            stands = stands;
            access = h.access;
            object = h.object;
            granule_is = h.granule_is;
            is_dynamic = h.is_dynamic;
            begun = begun.0;
            ended = ended.0;
          }),
        )

-- ---- sets without two threads of which one writes
pub record NoConflict (L : Newest) : Type 0 where
  pub none : (o : Object) (granule t u : ℕ) (write : Bool) → InSet L o granule t true → InSet L o granule u write → t ≡ u

abbrev pub Clean : Newest → Type 0
Clean [] = Unit {0}
Clean (e ∷ L) = NoConflict (e ∷ L) × Clean L

pub clean_now : (L : Newest) → Clean L → NoConflict L
clean_now [] h = record { none = λ o granule t u write a b. absurd a }
clean_now (e ∷ L) h = h.0

prefix : (e : SourceEvent) (xs earlier later : History) → xs ++ e ∷ [] ≡ earlier ++ later → (earlier ≡ xs ++ e ∷ []) ⊎ ((rest : History) × (xs ≡ earlier ++ rest))
prefix e [] [] later q = inr ([], refl)
prefix e [] (d ∷ []) later q = let same : e ≡ d = cc in inl (ap (λ z. z ∷ []) (sym same))
prefix e [] (d ∷ c ∷ ds) later q = absurd (cc)
prefix e (y ∷ ys) [] later q = inr (y ∷ ys, refl)
prefix e (y ∷ ys) (d ∷ ds) later q =
    let same : y ≡ d = cc in
    let rest : ys ++ e ∷ [] ≡ ds ++ later = cc in
    ⊎_elim
    (λ (h : ds ≡ ys ++ e ∷ []). inl (ap (λ zs. d ∷ zs) h ∙ ap (λ z. z ∷ (ys ++ e ∷ [])) (sym same)))
    (λ (h : (rest : History) × (ys ≡ ds ++ rest)). inr (h.0, ap (λ zs. y ∷ zs) h.1 ∙ ap (λ z. z ∷ (ds ++ h.0)) same))
    (prefix e ys ds later rest)

no_two : (L : Newest) → NoConflict L → (o : Object) (granule : ℕ) (d e : SourceEvent) (a b : Access) → AccessSet (reverse L) o granule until_return d a → AccessSet (reverse L) o granule until_return e b → d.thread ≢ e.thread → (a.is_write || b.is_write) ≡ false
no_two L h o granule d e a b x y ne = by a.is_write refl b.is_write refl
  where
    by : (p : Bool) → a.is_write ≡ p → (q : Bool) → b.is_write ≡ q → (p || q) ≡ false
    by true i q j = absurd (ne (h.none o granule d.thread e.thread b.is_write (subst (InSet L o granule d.thread) i (in_set L o granule d a x)) (in_set L o granule e b y)))
    by false i true j = absurd (ne (sym (h.none o granule e.thread d.thread a.is_write (subst (InSet L o granule e.thread) j (in_set L o granule e b y)) (in_set L o granule d a x))))
    by false i false j = refl

pub clean_shares : (L : Newest) → Clean L → ReadSharedOrOwn (reverse L) until_return
clean_shares [] h [] later o granule d e a b q x y ne = no_two [] (clean_now [] tt) o granule d e a b x y ne
clean_shares [] h (f ∷ fs) later o granule d e a b q x y ne = absurd (cc)
clean_shares (f ∷ L) h earlier later o granule d e a b q x y ne = ⊎_elim
    (λ (all : earlier ≡ reverse L ++ f ∷ []).
    let same : earlier ≡ reverse (f ∷ L) = all ∙ sym (reverse_push f L) in
    no_two (f ∷ L) h.0 o granule d e a b (subst (λ R. AccessSet R o granule until_return d a) same x) (subst (λ R. AccessSet R o granule until_return e b) same y) ne)
    (λ (part : (rest : History) × (reverse L ≡ earlier ++ rest)). clean_shares L h.1 earlier part.0 o granule d e a b part.1 x y ne)
    (prefix f (reverse L) earlier later (sym (reverse_push f L) ∙ q))
