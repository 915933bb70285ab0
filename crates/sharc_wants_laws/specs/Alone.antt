-- Where a test of a reference found 1, no other reference to its object is anywhere.
use Rattle.std.specs.Prelude.{ℕ, ◌≡◌, ◌+◌, List, ◌∷◌}
use Rattle.sharc_code.specs.{declared.code.Code.Code, declared.instr.Instr.TheVariants.TestSole}
use Rattle.sharc_code.specs.{declared.shape.Shape.Shape, Layout.Fits, Machine.{instr_at, ref}, Runs.{Turn, result_of}}
use Rattle.sharc_code.specs.Whole.{CheckedRun, place_after}
use Rattle.sharc_invariant.specs.{Types.Targets, Labels.Labels, Typed.IsWellTyped, World.ObjectState, State.IsSmall}
use Rattle.sharc_invariant.specs.{Opened.{first_world, first_place}, Objects.objects_after, MachineInvariant.IsAlone}

-- By this turn, which comes after those, its thread looks whether the reference in the register is the only one to its
-- object, and finds that it is.
pub record Passes (code : Code) (s : Shape) (test : Turn) (earlier : List Turn) (register : ℕ) : Type 0 where
  pub site : ℕ
  pub is_test : instr_at code ((place_after code s earlier).threads test.thread).at.pc ≡ TestSole register site
  pub found : result_of test.event ≡ 1

-- the object to which it refers
abbrev pub tested_object : Code → Shape → Turn → List Turn → ℕ → ℕ
tested_object code s test earlier register = ref ((place_after code s earlier).threads test.thread) register

-- the objects of a run
abbrev pub objects_there : Targets → Code → Shape → Labels → List Turn → ℕ → ObjectState
objects_there x code s ls run = objects_after code s ls (first_place code s) (first_world x).obj run

-- at the place of each such turn of a checked run of typed code, the register has the only reference
abbrev pub PassedAreAlone : Type 0
PassedAreAlone = (x : Targets) (code : Code) (s : Shape) (ls : Labels) → IsWellTyped x code ls → Fits code s
    → IsSmall code s
    → (test : Turn) (earlier : List Turn) → CheckedRun code s (test ∷ earlier)
    → (register : ℕ) → Passes code s test earlier register
    → let g = place_after code s earlier in
    IsAlone x code s g (objects_there x code s ls earlier) test.thread ((g.threads test.thread).at.refs + register)
    (tested_object code s test earlier register)
