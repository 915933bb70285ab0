-- The source events of each checked run of typed code keep the rules of the modes.
use Rattle.std.specs.Prelude.{List, reverse}
use Rattle.sharc_code.specs.{declared.code.Code.Code, declared.shape.Shape.Shape, Layout.Fits, Runs.Turn}
use Rattle.sharc_code.specs.Whole.{CheckedRun, Erase}
use Rattle.sharc_compile.specs.OfRuns.{told_in}
use Rattle.sharc_meaning.specs.Obeys.{History, Obeys, until_return}
use Rattle.sharc_invariant.specs.{Types.Targets, Labels.Labels, Typed.IsWellTyped, State.IsSmall}

-- the events of a run, the first one first
abbrev pub history_of : Code → Shape → List Turn → History
history_of code s run = reverse (told_in (Erase code s run))

-- they keep all rules of the modes, where an access counts in its access set until its thread returns
abbrev pub HistoriesObey : Type 0
HistoriesObey = (x : Targets) (code : Code) (s : Shape) (ls : Labels) → IsWellTyped x code ls → Fits code s
    → IsSmall code s
    → (run : List Turn) → CheckedRun code s run → Obeys (history_of code s run) until_return
