-- The path of each thread of each checked run of typed code has consistent results.
use Rattle.std.specs.Prelude.{ℕ, List}
use Rattle.sharc_code.specs.{declared.code.Code.Code, declared.shape.Shape.Shape, Layout.Fits, Path.begun}
use Rattle.sharc_code.specs.{Runs.{Turn, turns_of}, Whole.CheckedRun}
use Rattle.sharc_compile.specs.{Consistent.IsConsistent, OfRuns.{founds_of, elements_before}}
use Rattle.sharc_invariant.specs.{Types.Targets, Labels.Labels, Typed.IsWellTyped, State.IsSmall}

abbrev pub PathsAreConsistent : Type 0
PathsAreConsistent = (x : Targets) (code : Code) (s : Shape) (ls : Labels) → IsWellTyped x code ls → Fits code s
    → IsSmall code s
    → (run : List Turn) → CheckedRun code s run
    → (t : ℕ) → IsConsistent code s (begun code s t) (elements_before code s t run) (founds_of (turns_of t run))
