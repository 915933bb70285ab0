-- How many cells of a global the operations of flat code may find by an index.
use Rattle.std.specs.Prelude.{◌≡◌, ℕ, ◌+◌, ◌*◌, ◌^◌, ◌<◌, List, slice_get, Some}
use Rattle.sharc_flat.specs.{declared.op.Op.Op, declared.op.Spot.Spot}
use Rattle.sharc_flat.specs.declared.op.Op.TheVariants as op

-- of one operation, and of all lines
abbrev pub IsFew : Op → Type 0
IsFew o = (i elements cells field : ℕ) (spot : Spot)
    → o ≡ op.GlobalBounds i elements cells field spot → elements * cells + field < 2 ^ 63

abbrev pub AreFew : List Op → Type 0
AreFew lines = (n i elements cells field : ℕ) (spot : Spot)
    → slice_get lines n ≡ Some (op.GlobalBounds i elements cells field spot) → elements * cells + field < 2 ^ 63
