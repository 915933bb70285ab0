-- An example: `int x; int main() { x = 7; print(x); return; }`, where x is dynamic.
use Rattle.std.specs.Prelude.{ℕ, ◌≡◌, pos, Bool, true, List, [], ◌∷◌, nat_eq}
use Rattle.sharc_code.specs.{declared.code.Function.Function, declared.instr.Cell.TheVariants.Global}
use Rattle.sharc_code.specs.{declared.instr.Instr.Instr, Says.no_site}
use Rattle.sharc_code.specs.declared.code.Parameter.TheVariants as parameters
use Rattle.sharc_code.specs.declared.code.PlaceMode.TheVariants as modes
use Rattle.sharc_code.specs.declared.code.Use.TheVariants as uses
use Rattle.sharc_code.specs.declared.instr.Instr.TheVariants as instr
use Rattle.sharc_flat.specs.{declared.op.Op.Op, declared.op.Spot.Spot, Machine.Flat, Framed.{IsFlat, IsFramed}}
use Rattle.sharc_flat.specs.declared.op.Op.TheVariants as op
use Rattle.sharc_guard.specs.{Form.IsGuarded, Guard.guarded}

abbrev pub there : Spot
there = record {
  site = no_site;
  lvalue = record { from = 0; until = 1 };
  lock_text = record { from = 0; until = 0 };
  mode = modes.Dynamic;
  at = uses.Other;
  lock = Global 0 0;
  is_simple = true;
}

abbrev pub main : Function
main = record {
  entry = 0;
  ints = 1;
  refs = 0;
  parameter = parameters.None;
  site = no_site;
  name = record { from = 0; until = 0 };
}

abbrev pub lines : List Op
lines = op.Enter ∷ op.Constant 0 (pos 7) ∷ op.Store 0 (Global 0 0) there ∷ op.Enter ∷ op.Load 0 (Global 0 0) there
    ∷ op.Print 0 there ∷ op.Return there ∷ []

abbrev pub example : Flat
example = record { lines = lines; told = []; functions = main ∷ []; globals = record { granule = 0; cells = 1 } ∷ [] }

-- the check of the read is dropped
abbrev pub drops : ℕ → Bool
drops n = nat_eq n 4

-- the statements that it becomes
abbrev pub statements : List Instr
statements =
    instr.Start 0 ∷ instr.Exit ∷ instr.Constant 0 (pos 7) ∷ instr.ChkWrite (Global 0 0) 2 ∷ instr.Store 0 (Global 0 0) 2
    ∷ instr.Load 0 (Global 0 0) 4 ∷ instr.Print 0 5 ∷ instr.Return 6
    ∷ []

pub record HasExample : Type 0 where
  pub flat : IsFlat example
  pub framed : IsFramed example
  pub becomes : (guarded drops example).statements ≡ statements
  pub guarded : IsGuarded (guarded drops example)
