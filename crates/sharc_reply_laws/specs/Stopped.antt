-- A thread that has a stop is stopped.
use Rattle.std.specs.Prelude.{◌≡◌, ℕ, List, Some}
use Rattle.sharc_code.specs.{declared.code.Code.Code, declared.shape.Shape.Shape}
use Rattle.sharc_code.specs.{declared.state.TurnState.TheVariants.Stopped, declared.state.Stop.Stop, Runs.Turn}
use Rattle.sharc_code.specs.Whole.{CheckedRun, place_after}

-- so the line of each thread that says why it was stopped is of a thread that was
abbrev pub StopsAreStopped : Type 0
StopsAreStopped = (code : Code) (s : Shape) (run : List Turn) → CheckedRun code s run → (t : ℕ) (stop : Stop)
    → ((place_after code s run).threads t).own.stop ≡ Some stop
    → ((place_after code s run).threads t).at.state ≡ Stopped
