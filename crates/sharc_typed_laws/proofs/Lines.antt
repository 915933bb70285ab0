-- Lines that stand in a table of marks are typed whatever checks are remembered, and before each is said what is remembered of copies and numbers.
use Rattle.sharc_typed_laws.proofs.Imports.{◌≡◌, ℕ, zero, suc, ◌+◌, ◌<◌, Bool, true, false, cond, List, [], ◌∷◌, length, Some, refl, sym, subst, arith, none-some, slice_get, Code, Label, Labels, MayStart, Cell, Op, is_straight, is_target, Know, nothing, know_next, know_after, known, Targets, TypedAnyhow, Knows, Mark, Tells, IsAtHand, IsLine, flat_labels, LinesAreTyped, LinesTell, LinesKnow}

pub lines_typed : LinesAreTyped
lines_typed z owner table flat size all n o at = subst (λ lines. TypedAnyhow z.targets z.code (flat_labels z table) lines n o) size (all n o at).typed

none_told : (x : Targets) (s : Mark) → Tells x nothing s
none_told x s = record { copies = λ r v e. absurd (none-some v e); numbers = λ i n _ _ e. absurd (none-some n e) }

pub found : (os : List Op) (n : ℕ) → n < length os → (o : Op) × (slice_get os n ≡ Some o)
found [] n lt = absurd (omega (arith, lt))
found (o ∷ os) zero lt = (o, refl)
found (o ∷ os) (suc n) lt = found os n (omega (arith, lt))

pub lines_tell : LinesTell
lines_tell z owner table flat all zero lt = none_told z.targets (table 0)
lines_tell z owner table flat all (suc n) lt =
    let w = found flat.lines n (omega (arith, lt)) in
    let line = all n w.0 w.1 in
    let back = lines_tell z owner table flat all n (omega (arith, lt)) in
    elim (is_target flat (suc n)) as (λ b. Tells z.targets (cond b nothing (know_after (slice_get flat.lines n) (known flat n))) (table (suc n))) [
      | true ↦ none_told z.targets (table (suc n))
      | false ↦ subst (λ o. Tells z.targets (know_after o (known flat n)) (table (suc n))) (sym w.1) (by w.0 line back)
    ]
  where
    by : (o : Op) → IsLine z (owner n) table n (table n) o → Tells z.targets (known flat n) (table n) → Tells z.targets (know_after (Some o) (known flat n)) (table (suc n))
    by o line back = straight (is_straight o) refl
      where
        straight : (b : Bool) → is_straight o ≡ b → Tells z.targets (cond b (know_next o (known flat n)) nothing) (table (suc n))
        straight true e = let q : n + 1 ≡ suc n = omega arith in subst (λ m. Tells z.targets (know_next o (known flat n)) (table m)) q (line.tells e (known flat n) back)
        straight false e = none_told z.targets (table (suc n))

cell_known : (x : Targets) (k : Know) (s : Mark) (c : Cell) → Tells x k s → IsAtHand s c → Knows x k s.label c
cell_known x k s (Cell.Global g place) h hand = tt
cell_known x k s (Cell.GlobalAt g i) h hand = λ n e. h.numbers i n hand.0 hand.1 e
cell_known x k s (Cell.Object r n) h hand = λ v e. h.copies r v e
cell_known x k s (Cell.ObjectAt r i) h hand = (λ v e. h.copies r v e, λ n e. h.numbers i n hand.0 hand.1 e)

pub within : (os : List Op) (n : ℕ) (o : Op) → slice_get os n ≡ Some o → n < length os
within [] n o e = absurd (none-some o e)
within (p ∷ os) zero o e = omega arith
within (p ∷ os) (suc n) o e = let z = within os n o e in omega (arith, z)

-- labels that say otherwise what is known before lines let functions start as well
pub starts_alike : (code : Code) (ls : Labels) (at : ℕ → Label) (f : ℕ) → MayStart code ls f → MayStart code (record ls { at = at }) f
starts_alike code ls at f h = record { is = h.is; result = h.result; others = h.others; reference = h.reference; closed = h.closed; number = h.number; numbers = h.numbers; frame = h.frame; frame_int = h.frame_int }

pub lines_know : LinesKnow
lines_know z owner table flat all n o a at e = cell_known z.targets (known flat n) (table n) a.cell (lines_tell z owner table flat all n (within flat.lines n o at)) ((all n o at).cells a e)
