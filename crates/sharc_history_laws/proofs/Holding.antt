-- The mutexes that a thread holds by a history that grows by one event.
use Rattle.sharc_history_laws.proofs.{Imports.{◌≡◌, ℕ, Bool, true, false, not, ◌||◌, ◌&&◌, List, [], ◌∷◌, ◌++◌, reverse, Option, Some, None, refl, sym, ap, ◌∙◌, if◌then◌else◌, eqb-true, ◌==◌, list_any, SourceEvent, CellAt, Object, same_object, same_cell, is_cell, locked_by, locks, unlocks, is_of, events_of, unless_unlocked, held_mutexes, holds_mutex, History, both_true, or_false, or_assoc}, Lists.{Newest, reverse_push}, Sets.own_append}

-- ---- cells
object_eq : (a b : Object) → same_object a b ≡ true → a ≡ b
object_eq (Object.Global g) (Object.Global h) e = ap Object.Global (eqb-true g h e)
object_eq (Object.Made g) (Object.Made h) e = ap Object.Made (eqb-true g h e)
object_eq (Object.Global g) (Object.Made h) e = absurd (let f : false ≡ true = e in cc)
object_eq (Object.Made g) (Object.Global h) e = absurd (let f : false ≡ true = e in cc)

pub cell_eq : (a b : CellAt) → same_cell a b ≡ true → a ≡ b
cell_eq a b e =
    let k = both_true (same_object a.object b.object) (a.cell == b.cell) e in
    let o = object_eq a.object b.object k.0 in
    let c = eqb-true a.cell b.cell k.1 in
    λ i. record { object = o i; cell = c i }

-- ---- one event more
table : (gone now same held locked unlocked rest : Bool) → (same ≡ true → unlocked ≡ now) → rest ≡ (locked || (held && not unlocked))
    → (if (gone || now) then rest else (same || rest)) ≡ (locked || ((if gone then held else (same || held)) && not unlocked))
table true now same held locked unlocked rest h e = e
table false true true held locked unlocked rest h e = let u = h refl in e ∙ ap (λ b. locked || (held && not b)) u ∙ by held ∙ sym (ap (λ b. locked || not b) u)
  where
    by : (held : Bool) → (locked || (held && not true)) ≡ (locked || not true)
    by true = refl
    by false = refl
table false true false held locked unlocked rest h e = e
table false false true held locked unlocked rest h e = let u = h refl in sym (ap (λ b. locked || not b) u ∙ by locked)
  where
    by : (locked : Bool) → (locked || not false) ≡ true
    by true = refl
    by false = refl
table false false false held locked unlocked rest h e = e

pub any_push : (test : SourceEvent → Bool) (xs : History) (e : SourceEvent) → list_any test (xs ++ e ∷ []) ≡ (list_any test xs || test e)
any_push test [] e = or_false (test e)
any_push test (y ∷ ys) e = ap (λ b. test y || b) (any_push test ys e) ∙ sym (or_assoc (test y) (list_any test ys) (test e))

module _ (c : CellAt) (e : SourceEvent) where
  last : (d : Option CellAt) → list_any (same_cell c) (unless_unlocked [] d []) ≡ (is_cell c d || (false && not (unlocks c e)))
  last None = refl
  last (Some d) = refl

  next : (d : Option CellAt) (ys : History) → holds_mutex (ys ++ e ∷ []) c ≡ (locks c e || (holds_mutex ys c && not (unlocks c e)))
      → list_any (same_cell c) (unless_unlocked (ys ++ e ∷ []) d (held_mutexes (ys ++ e ∷ []))) ≡ (locks c e || (list_any (same_cell c) (unless_unlocked ys d (held_mutexes ys)) && not (unlocks c e)))
  next None ys h = h
  next (Some d) ys h =
      pick (list_any (unlocks d) (ys ++ e ∷ [])) (held_mutexes (ys ++ e ∷ []))
      ∙ ap (λ b. if b then holds_mutex (ys ++ e ∷ []) c else (same_cell c d || holds_mutex (ys ++ e ∷ []) c)) (any_push (unlocks d) ys e)
      ∙ table (list_any (unlocks d) ys) (unlocks d e) (same_cell c d) (holds_mutex ys c) (locks c e) (unlocks c e) (holds_mutex (ys ++ e ∷ []) c) (λ same. ap (λ c. unlocks c e) (cell_eq c d same)) h
      ∙ ap (λ b. locks c e || (b && not (unlocks c e))) (sym (pick (list_any (unlocks d) ys) (held_mutexes ys)))
    where
      pick : (b : Bool) (held : List CellAt) → list_any (same_cell c) (if b then held else d ∷ held) ≡ (if b then list_any (same_cell c) held else (same_cell c d || list_any (same_cell c) held))
      pick true held = refl
      pick false held = refl

  holds_push : (own : History) → holds_mutex (own ++ e ∷ []) c ≡ (locks c e || (holds_mutex own c && not (unlocks c e)))
  holds_push [] = last (locked_by e.act)
  holds_push (y ∷ ys) = next (locked_by y.act) ys (holds_push ys)

-- ---- the newest event first
abbrev pub holds_in : Newest → ℕ → CellAt → Bool
holds_in L t c = holds_mutex (events_of t (reverse L)) c

pub own_push : (e : SourceEvent) (L : Newest) (t : ℕ) → events_of t (reverse (e ∷ L)) ≡ (if is_of t e then events_of t (reverse L) ++ e ∷ [] else events_of t (reverse L))
own_push e L t = ap (events_of t) (reverse_push e L) ∙ own_append t (reverse L) e

pub holds_other : (e : SourceEvent) (L : Newest) (t : ℕ) (c : CellAt) → is_of t e ≡ false → holds_in (e ∷ L) t c ≡ holds_in L t c
holds_other e L t c is = ap (λ own. holds_mutex own c) (own_push e L t ∙ ap (λ b. if b then events_of t (reverse L) ++ e ∷ [] else events_of t (reverse L)) is)

pub holds_own : (e : SourceEvent) (L : Newest) (t : ℕ) (c : CellAt) → is_of t e ≡ true → holds_in (e ∷ L) t c ≡ (locks c e || (holds_in L t c && not (unlocks c e)))
holds_own e L t c is = ap (λ own. holds_mutex own c) (own_push e L t ∙ ap (λ b. if b then events_of t (reverse L) ++ e ∷ [] else events_of t (reverse L)) is) ∙ holds_push c e (events_of t (reverse L))
