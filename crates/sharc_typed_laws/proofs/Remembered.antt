-- A check that is remembered is one of a variable that stands, or of a cell of a global, which is none of granule 0.
use Rattle.sharc_typed_laws.proofs.{Imports.{◌≡◌, ◌≢◌, ℕ, zero, suc, ◌+◌, ◌<◌, ◌≤◌, Bool, true, false, cond, List, [], ◌++◌, length, Option, Some, None, refl, sym, ap, ◌∙◌, subst, ⊎_elim, arith, false≢true, nat_tests, same_Some, none-some, slice_get, filter, nat_lt, Cell, Op, Flat, is_straight, is_target, writes_ref, writes_int, number_given, SimplePlace, in_variable, Access, access, tells, nothing, know_next, know_after, variable_place, global_place, place_of, known, drops, Targets, StaticType, Field, Empty, Refers, Element, Named, Nth, OfGlobal, Pass, IsIn, Label, HasField, AreGlobals, TypedLine, pass_at, pass_of_place, pass_by, stays, passes_after, passes_before, passes_in, with_passes, with_all, IsNumberOf, Knows, Mark, Setting, labels_by, Tells, AreAllLines, unless}, After.{IsPast, After, after}, Passing.{of_filter, of_both}, Lines.{found, within}, Anyhow.fields_of}
use Rattle.sharc_flat_laws.specs.Tables.{OpPast}
use Rattle.sharc_guard.specs.Known.{in_global}

-- ---- lists
not_empty : (s : StaticType) → Refers s ≢ Empty
not_empty s e = absurd (cc)

-- ---- what an access tells of its place
variable_is : (c n : Option ℕ) (y m : ℕ) → variable_place c n ≡ Some (in_variable y m) → c ≡ Some y
variable_is None n y m e = absurd (none-some (in_variable y m) e)
variable_is (Some x) None y m e = absurd (none-some (in_variable y m) e)
variable_is (Some x) (Some n) y m e = let z : in_variable x n ≡ in_variable y m = same_Some (in_variable x n) (in_variable y m) e in let q : x ≡ y = cc in ap Some q

no_global_place : (c n : Option ℕ) (g m : ℕ) → variable_place c n ≡ Some (in_global g m) → ⊥
no_global_place None n g m e = none-some (in_global g m) e
no_global_place (Some x) None g m e = none-some (in_global g m) e
no_global_place (Some x) (Some n) g m e = let z : in_variable x n ≡ in_global g m = same_Some (in_variable x n) (in_global g m) e in absurd (cc)

global_is : (h : ℕ) (n : Option ℕ) (g m : ℕ) → global_place h n ≡ Some (in_global g m) → n ≡ Some m
global_is h None g m e = absurd (none-some (in_global g m) e)
global_is h (Some n) g m e = let z : in_global h n ≡ in_global g m = same_Some (in_global h n) (in_global g m) e in let q : n ≡ m = cc in ap Some q

no_variable_place : (h : ℕ) (n : Option ℕ) (y m : ℕ) → global_place h n ≡ Some (in_variable y m) → ⊥
no_variable_place h None y m e = none-some (in_variable y m) e
no_variable_place h (Some n) y m e = let z : in_global h n ≡ in_variable y m = same_Some (in_global h n) (in_variable y m) e in absurd (cc)

-- a number of a cell past granule 0 is none of granule 0
past_number : (x : Targets) (l : Label) (n first count elements : ℕ) (e : Element) → IsNumberOf x l n (OfGlobal first count elements e) → 2 ≤ first → 2 ≤ n
past_number x l n first count elements (Nth e) is past = omega (arith, is, past)
past_number x l n first count elements (Named m) is past = absurd is

-- ---- lines
module _ (z : Setting) (owner : ℕ → ℕ) (table : ℕ → Mark) (flat : Flat) (all : AreAllLines z owner table flat) (past : (n : ℕ) (o : Op) → slice_get flat.lines n ≡ Some o → OpPast o)
    (told : (n : ℕ) → n < length flat.lines → Tells z.targets (known flat n) (table n)) (knows : (n : ℕ) (o : Op) (a : Access) → slice_get flat.lines n ≡ Some o → access o ≡ Some a → Knows z.targets (known flat n) (table n).label a.cell) where
  abbrev label : ℕ → Label
  label n = (table n).label

  bare : (n : ℕ) (o : Op) → slice_get flat.lines n ≡ Some o → TypedLine z.targets z.code (with_all (labels_by z table) (λ n. [])) z.lines false (table n).replaced n (with_passes (label n) []) (with_passes (label (n + 1)) []) o
  bare n o at = (all n o at).typed false (λ n. []) (λ e. absurd (false≢true e)) (λ t _. refl) (λ p h. absurd h)

  next : (n : ℕ) (o : Op) → slice_get flat.lines n ≡ Some o → is_straight o ≡ true → After o (with_passes (label n) []) (with_passes (label (suc n)) [])
  next n o at straight =
      let e : n + 1 ≡ suc n = omega arith in
      subst (λ q. After o (with_passes (label n) []) (with_passes (label q) [])) e
      (after z.targets z.code (with_all (labels_by z table) (λ n. [])) z.lines false (table n).replaced n (with_passes (label n) []) (with_passes (label (n + 1)) []) o straight (bare n o at))

  -- ---- numbers that are remembered
  number_past : (n : ℕ) → n < length flat.lines → (i v : ℕ) → (known flat n).number i ≡ Some v → IsPast ((label n).ints i)
  number_past zero lt i v = λ e. absurd (none-some v e)
  number_past (suc n) lt i v =
      let w = found flat.lines n (omega (arith, lt)) in
      elim (is_target flat (suc n)) as (λ b. (cond b nothing (know_after (slice_get flat.lines n) (known flat n))).number i ≡ Some v → IsPast ((label (suc n)).ints i)) [
        | true ↦ λ e. absurd (none-some v e)
        | false ↦ subst (λ o. (know_after o (known flat n)).number i ≡ Some v → IsPast ((label (suc n)).ints i)) (sym w.1) (by w.0 w.1 (number_past n (omega (arith, lt)) i))
      ]
    where
      by : (o : Op) → slice_get flat.lines n ≡ Some o → ((v : ℕ) → (known flat n).number i ≡ Some v → IsPast ((label n).ints i)) → (know_after (Some o) (known flat n)).number i ≡ Some v → IsPast ((label (suc n)).ints i)
      by o at old = straight (is_straight o) refl
        where
          straight : (b : Bool) → is_straight o ≡ b → (cond b (know_next o (known flat n)) nothing).number i ≡ Some v → IsPast ((label (suc n)).ints i)
          straight false e = λ g. absurd (none-some v g)
          straight true e = written (writes_int o i) refl
            where
              written : (b : Bool) → writes_int o i ≡ b → cond b (number_given o ((known flat n).number i)) ((known flat n).number i) ≡ Some v → IsPast ((label (suc n)).ints i)
              written true w = λ g. (next n o at e).given i v ((known flat n).number i) w g (past n o at)
              written false w = λ g. (next n o at e).past i w (old v g)

  -- ---- variables whose checks are remembered
  -- what a register that holds something is a copy of holds something
  copy_full : (n : ℕ) (o : Op) → slice_get flat.lines n ≡ Some o → (r v : ℕ) → (label n).same r ≡ v → (label n).env r ≢ Empty → (label n).env v ≢ Empty
  copy_full n o at r v same full = ⊎_elim (λ (e : (label n).same r ≡ r). subst (λ q. (label n).env q ≢ Empty) (sym e ∙ same) full) (λ (f : (label n).env ((label n).same r) ≢ Empty). subst (λ q. (label n).env q ≢ Empty) same f) ((all n o at).scoped.copies r)

  -- so the variable that the base of a cell is a copy of
  base_full : (n : ℕ) → n < length flat.lines → (o : Op) → slice_get flat.lines n ≡ Some o → (c : Cell) (f : Field) → HasField z.targets z.code (with_passes (label n) []) c f → (v m : ℕ) → place_of (known flat n) c ≡ Some (in_variable v m) → (label n).env v ≢ Empty
  base_full n lt o at (Cell.Object r i) f has v m e = copy_full n o at r v ((told n lt).copies r v (variable_is ((known flat n).copy r) (Some i) v m e)) (λ z. not_empty has.1.0 (sym has.1.1 ∙ z))
  base_full n lt o at (Cell.ObjectAt r i) f has v m e = copy_full n o at r v ((told n lt).copies r v (variable_is ((known flat n).copy r) ((known flat n).number i) v m e)) (λ z. not_empty has.1.0 (sym has.1.3 ∙ z))
  base_full n lt o at (Cell.Global g p) f has v m e = let q : in_global g p ≡ in_variable v m = same_Some (in_global g p) (in_variable v m) e in absurd (cc)
  base_full n lt o at (Cell.GlobalAt g i) f has v m e = absurd (no_variable_place g ((known flat n).number i) v m e)

  -- the check of the access itself
  new_full : (n : ℕ) → n < length flat.lines → (o : Op) → slice_get flat.lines n ≡ Some o → (p : Pass) (v : ℕ) → p.base ≡ Some v → (w : Option Access) → access o ≡ w → IsIn p (pass_by (known flat n) w) → (label n).env v ≢ Empty
  new_full n lt o at p v is None e h = absurd h
  new_full n lt o at p v is (Some a) e h = by (tells a.spot) h
    where
      placed : (place : Option SimplePlace) → place_of (known flat n) a.cell ≡ place → IsIn p (pass_of_place a.kind place) → (label n).env v ≢ Empty
      placed None q i = absurd i
      placed (Some (in_global g m)) q i = ⊎_elim (λ (s : pass_at a.kind (in_global g m) ≡ p). absurd (none-some v (ap (λ (p : Pass). p.base) s ∙ is))) (λ k. absurd k) i
      placed (Some (in_variable y m)) q i = ⊎_elim (λ (s : pass_at a.kind (in_variable y m) ≡ p). variable (same_Some y v (ap (λ (p : Pass). p.base) s ∙ is))) (λ k. absurd k) i
        where
          variable : y ≡ v → (label n).env v ≢ Empty
          variable same =
              let has = fields_of z.targets z.code (with_all (labels_by z table) (λ n. [])) z.lines (table n).replaced n (with_passes (label n) []) (with_passes (label (n + 1)) []) o (bare n o at) a e in
              subst (λ v. (label n).env v ≢ Empty) same (base_full n lt o at a.cell has.0 has.1 y m q)

      by : (b : Bool) → IsIn p (cond b (pass_of_place a.kind (place_of (known flat n) a.cell)) []) → (label n).env v ≢ Empty
      by true i = placed (place_of (known flat n) a.cell) refl i
      by false i = absurd i

  before_full : (n : ℕ) → n < length flat.lines → (p : Pass) (v : ℕ) → p.base ≡ Some v → IsIn p (passes_before flat n) → (label n).env v ≢ Empty
  before_full zero lt p v is = λ h. absurd h
  before_full (suc n) lt p v is =
      let w = found flat.lines n (omega (arith, lt)) in
      elim (is_target flat (suc n)) as (λ b. IsIn p (cond b [] (passes_after (slice_get flat.lines n) (known flat n) (passes_before flat n))) → (label (suc n)).env v ≢ Empty) [
        | true ↦ λ h. absurd h
        | false ↦ subst (λ o. IsIn p (passes_after o (known flat n) (passes_before flat n)) → (label (suc n)).env v ≢ Empty) (sym w.1) (by w.0 w.1 (before_full n (omega (arith, lt)) p v is))
      ]
    where
      by : (o : Op) → slice_get flat.lines n ≡ Some o → (IsIn p (passes_before flat n) → (label n).env v ≢ Empty) → IsIn p (passes_after (Some o) (known flat n) (passes_before flat n)) → (label (suc n)).env v ≢ Empty
      by o at old = straight (is_straight o) refl
        where
          News : List Pass
          News = cond (drops (known flat n) o) [] (pass_by (known flat n) (access o))

          lt2 : n < length flat.lines
          lt2 = omega (arith, lt)

          news : (b : Bool) → IsIn p (cond b [] (pass_by (known flat n) (access o))) → (label n).env v ≢ Empty
          news true h = absurd h
          news false h = new_full n lt2 o at p v is (access o) refl h

          here : IsIn p (News ++ passes_before flat n) → (label n).env v ≢ Empty
          here h = ⊎_elim (λ (i : IsIn p News). news (drops (known flat n) o) i) (λ i. old i) (of_both News (passes_before flat n) p h)

          straight : (b : Bool) → is_straight o ≡ b → IsIn p (cond b (filter (λ p. stays o p.base) (News ++ passes_before flat n)) []) → (label (suc n)).env v ≢ Empty
          straight false e = λ h. absurd h
          straight true e = λ h.
              let f = of_filter (λ p. stays o p.base) (News ++ passes_before flat n) p h in
              let kept : writes_ref o v ≡ false = unless (writes_ref o v) (sym (ap (stays o) is) ∙ f.1) in
              (next n o at e).full v kept (here f.0)

  pub variables : (n : ℕ) (p : Pass) (v : ℕ) → IsIn p (passes_in flat n) → p.base ≡ Some v → (label n).env v ≢ Empty
  variables n p v h is = by (nat_lt n (length flat.lines)) refl h
    where
      by : (b : Bool) → nat_lt n (length flat.lines) ≡ b → IsIn p (cond b (passes_before flat n) []) → (label n).env v ≢ Empty
      by false e h = absurd h
      by true e h = let lt : n < length flat.lines = grind (arith, nat_tests, e) in before_full n lt p v is h

  -- ---- cells of globals
  module _ (globals : AreGlobals z.targets z.code) where
    low_cell : (n : ℕ) (o : Op) → slice_get flat.lines n ≡ Some o → (c : Cell) (f : Field) → HasField z.targets z.code (with_passes (label n) []) c f → Knows z.targets (known flat n) (label n) c
        → (g place : ℕ) → place_of (known flat n) c ≡ Some (in_global g place) → 2 ≤ place
    low_cell n o at (Cell.Global h p) f has knows g place q =
        let same : in_global h p ≡ in_global g place = same_Some (in_global h p) (in_global g place) q in
        let equal : p ≡ place = cc in
        let from = has.0.from in
        let one = globals.low h has.0.is in
        omega (arith, equal, from, one)
    low_cell n o at (Cell.GlobalAt h i) f has knows g place q =
        let number : (known flat n).number i ≡ Some place = global_is h ((known flat n).number i) g place q in
        past_number z.targets (label n) place has.0 has.1 has.2 has.3 (subst (IsNumberOf z.targets (label n) place) has.4 (knows place number)) (subst IsPast has.4 (number_past n (within flat.lines n o at) i place number))
    low_cell n o at (Cell.Object r i) f has knows g place q = absurd (no_global_place ((known flat n).copy r) (Some i) g place q)
    low_cell n o at (Cell.ObjectAt r i) f has knows g place q = absurd (no_global_place ((known flat n).copy r) ((known flat n).number i) g place q)

    pub low : (n : ℕ) (o : Op) (a : Access) (g place : ℕ) → slice_get flat.lines n ≡ Some o → access o ≡ Some a → place_of (known flat n) a.cell ≡ Some (in_global g place) → 2 ≤ place
    low n o a g place at e q =
        let has = fields_of z.targets z.code (with_all (labels_by z table) (λ n. [])) z.lines (table n).replaced n (with_passes (label n) []) (with_passes (label (n + 1)) []) o (bare n o at) a e in
        low_cell n o at a.cell has.0 has.1 (knows n o a at e) g place q
