-- What the other access shows that the report of a conflict names.
use Rattle.std.specs.Prelude.{◌≡◌, ℕ, List, Some}
use Rattle.sharc_code.specs.{declared.code.Code.Code, declared.shape.Shape.Shape, declared.state.ConflictAt.ConflictAt}
use Rattle.sharc_code.specs.{declared.state.Stop.TheVariants.Conflict, Layout.Fits, Runs.Turn}
use Rattle.sharc_code.specs.Whole.{CheckedRun, place_after}
use Rattle.sharc_cpu.specs.Thread.{ThreadView}
use Rattle.sharc_threads.specs.Ends.{AreStarted}
use Rattle.sharc_invariant.specs.{Types.Targets, Labels.Labels, Typed.IsWellTyped, State.IsSmall}
use Rattle.sharc_history_laws.specs.{Causes.ShowsCause, Followed.ChecksAreFollowed}
use Rattle.sharc_run.specs.{declared.other.NotedCheck.NotedCheck, Others.other_access}

-- the report names another access, and that one is the cause
pub record NamesCause (code : Code) (s : Shape) (run : List Turn) (threads : List ThreadView) (t : ℕ)
    (c : ConflictAt) : Type 0 where
  pub other : NotedCheck
  pub is : other_access c threads t ≡ Some other
  pub cause : ShowsCause code s run t c other.thread other.kind other.site

-- Of each thread that has stopped at the check of an access, and the started threads as they stand at the end of the
-- run.
abbrev pub OthersAreCauses : Type 0
OthersAreCauses = (x : Targets) (code : Code) (s : Shape) (ls : Labels) → IsWellTyped x code ls → Fits code s
    → IsSmall code s → ChecksAreFollowed code
    → (run : List Turn) → CheckedRun code s run
    → (threads : List ThreadView) → AreStarted code s (place_after code s run) threads
    → (t : ℕ) (c : ConflictAt) → ((place_after code s run).threads t).own.stop ≡ Some (Conflict c)
    → NamesCause code s run threads t c
