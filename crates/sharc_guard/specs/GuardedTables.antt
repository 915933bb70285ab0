-- Tables of guarded code whose numbers are in the ranges that the machine asks for.
use Rattle.std.specs.Prelude.{ℕ, ◌≡◌, ◌<◌, ◌^◌, length, slice_get, slice_index, Some}
use Rattle.sharc_code.specs.{declared.instr.Instr.TheVariants.Spawn, declared.instr.Register.Register}
use Rattle.sharc_code.specs.Ranges.{GlobalsFit}
use Rattle.sharc_guard.specs.declared.guarded.Guarded.{Guarded}

-- `main` and each function that is spawned are functions, the globals lie one after the other within their granules,
-- and what they hold at first are words
pub record TablesFit (g : Guarded) : Type 0 where
  pub functions : length g.functions.items < 2 ^ 32
  pub main : g.main < length g.functions.items
  pub globals : GlobalsFit g.globals.items g.granules
  pub words : (j : ℕ) → slice_index g.initial.items j < 2 ^ 64
  pub spawned : (pc to function site : ℕ) (from : Register)
      → slice_get g.statements.items pc ≡ Some (Spawn to function from site) → function < length g.functions.items
