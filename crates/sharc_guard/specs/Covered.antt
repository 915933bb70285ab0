-- On each path an access whose check is dropped was checked before, and its object is held since.
use Rattle.std.specs.Prelude.{◌≡◌, ℕ, ℤ, ◌<◌, true, false, ◌⊎◌, List, [], ◌∷◌, length, Option, Some, slice_get}
use Rattle.sharc_tree.specs.{declared.event.CellAt.CellAt, declared.event.Object.Object}
use Rattle.sharc_tree.specs.declared.event.Object.TheVariants as objects
use Rattle.sharc_heap.specs.{declared.shadow_word.Kind.Kind, declared.shadow_word.Kind.TheVariants.{Read, Write}}
use Rattle.sharc_meaning.specs.Reference.{number_of}
use Rattle.sharc_flat.specs.{declared.op.Op.Op, Machine.{Flat, At, Turn, asks, turn, cell_at, start}}
use Rattle.sharc_flat.specs.Path.{at_after, IsPath}
use Rattle.sharc_flat.specs.declared.op.Op.TheVariants as op
use Rattle.sharc_guard.specs.{Known.{counts, dropped}, Repeated.IsStraight, Counted.IsAccess}

-- it asks for an access of this cell, of this kind or a write, in mode dynamic
abbrev pub Makes : Turn → Kind → CellAt → Type 0
Makes (asks m site act held f) kind cell = (by : Kind) × (counts by kind ≡ true) × IsAccess by cell act
Makes _ kind cell = ⊥

-- a reference is one to the object; a global needs none
abbrev pub RefersTo : Object → ℤ → Type 0
RefersTo (objects.Global g) v = Unit {0}
RefersTo (objects.Made n) v = number_of v ≡ n

-- On this path (the last answer first) such an access was made after its check, earlier in the same straight piece, and
-- since then this register has referred to its object.
abbrev pub Since : Flat → At → List ℤ → Kind → CellAt → ℕ → Type 0
Since flat from [] kind cell j = ⊥
Since flat from (x ∷ earlier) kind cell j = let now = at_after flat from earlier in
    ((Makes (turn flat now) kind cell × (dropped flat now.pc ≡ false)) ⊎ Since flat from earlier kind cell j)
    × IsStraight (slice_get flat.lines now.pc) × RefersTo cell.object ((at_after flat from (x ∷ earlier)).refs j)

abbrev pub IsCovered : Flat → At → List ℤ → Option Op → Type 0
IsCovered flat from answers (Some (op.Load i cell spot)) =
    (j : ℕ) × Since flat from answers Read (cell_at flat.globals (at_after flat from answers) cell) j
IsCovered flat from answers (Some (op.Store i cell spot)) =
    (j : ℕ) × Since flat from answers Write (cell_at flat.globals (at_after flat from answers) cell) j
IsCovered flat from answers _ = ⊥

abbrev pub DroppedIsCovered : Type 0
DroppedIsCovered = (flat : Flat) (f : ℕ) (v : ℤ) → f < length flat.functions
    → (answers : List ℤ) → IsPath flat (start flat f v) answers → let m = at_after flat (start flat f v) answers in
    dropped flat m.pc ≡ true → IsCovered flat (start flat f v) answers (slice_get flat.lines m.pc)
