-- A thread that has told no event has nothing in its registers or in hand.
use Rattle.std.specs.Prelude.{ℕ, ◌≡◌, List, [], reverse}
use Rattle.sharc_mode.specs.Moded.{Assignment}
use Rattle.sharc_meaning.specs.Events.{events_of}
use Rattle.sharc_code.specs.{declared.code.Code.Code, declared.shape.Shape.Shape, Machine.Machine, Path.begun}
use Rattle.sharc_code.specs.{Runs.{Turn, turns_of}, Whole.{CheckedRun, Erase, place_after}}
use Rattle.sharc_compile.specs.{Consistent.IsConsistent, OfRuns.{elements_before, founds_of, told_in}}
use Rattle.sharc_invariant.specs.Words.{register_of, staged_of}

pub record HasNothing (code : Code) (at : Machine) : Type 0 where
  pub registers : (i : ℕ) → register_of code at i ≡ 0
  pub hand : staged_of at.own.stage ≡ 0

abbrev pub SilentHaveNothing : Assignment → Code → Type 0
SilentHaveNothing m code = (s : Shape) (run : List Turn) → CheckedRun code s run
    → ((thread : ℕ)
    → IsConsistent code s (begun code s thread) (elements_before code s thread run) (founds_of (turns_of thread run)))
    → (thread : ℕ) → events_of thread (reverse (told_in (Erase code s run))) ≡ []
    → HasNothing code ((place_after code s run).threads thread)
