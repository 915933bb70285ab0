-- The tables of guarded code are in their ranges where those of the flat code are.
use Rattle.std.specs.Prelude.{ℕ, ◌≡◌, ◌<◌, ◌^◌, Bool, length, slice_get, slice_index, Some}
use Rattle.sharc_code.specs.{declared.instr.Register.Register, Ranges.GlobalsFit}
use Rattle.sharc_flat.specs.{declared.flat.Flat.{Flat as FlatCode}, declared.op.Spot.Spot}
use Rattle.sharc_flat.specs.declared.op.Op.TheVariants as op
use Rattle.sharc_guard.specs.{declared.guarded.Guarded.Guarded, GuardedTables.TablesFit, Made.IsMade}

-- `main` and each function that is spawned are functions, the globals lie one after the other within their granules,
-- and what they hold at first are words
pub record FlatTablesFit (f : FlatCode) : Type 0 where
  pub functions : length f.functions.items < 2 ^ 32
  pub main : f.main < length f.functions.items
  pub globals : GlobalsFit f.globals.items f.granules
  pub words : (j : ℕ) → slice_index f.initial.items j < 2 ^ 64
  pub spawned : (n to function : ℕ) (from : Register) (spot : Spot)
      → slice_get f.lines.items n ≡ Some (op.Spawn to function from spot) → function < length f.functions.items

abbrev pub TablesStay : Type 0
TablesStay = (dropped : ℕ → Bool) (f : FlatCode) (g : Guarded) → IsMade dropped f g → FlatTablesFit f → TablesFit g
