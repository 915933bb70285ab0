-- Which threads were started, have ended or were stopped, by the source events of a checked run of typed code.
use Rattle.std.specs.Prelude.{◌≡◌, ℕ, pos, true, false, List, Some}
use Rattle.sharc_code.specs.{declared.code.Code.Code, declared.shape.Shape.Shape}
use Rattle.sharc_code.specs.{declared.state.TurnState.TheVariants.Ended, declared.state.Stop.Stop, Layout.Fits}
use Rattle.sharc_code.specs.{Path.may_go, Runs.Turn, Whole.{CheckedRun, place_after}}
use Rattle.sharc_meaning.specs.Store.{was_spawned, went}
use Rattle.sharc_invariant.specs.{Types.Targets, Labels.Labels, Typed.IsWellTyped, State.IsSmall}
use Rattle.sharc_history_laws.specs.History.{history_of}

-- thread 0 and whoever a Spawn has answered were started; a thread that has ended is gone by the events; and one that
-- was stopped goes on no more
pub record ThreadsAreTold (code : Code) (s : Shape) (run : List Turn) : Type 0 where
  pub first : (place_after code s run).started 0 ≡ true
  pub spawned : (t : ℕ) → was_spawned (history_of code s run) t ≡ true → (place_after code s run).started t ≡ true
  pub ended : (t : ℕ) → ((place_after code s run).threads t).at.state ≡ Ended
      → went (history_of code s run) (pos t) ≡ true
  pub stopped : (t : ℕ) (stop : Stop) → ((place_after code s run).threads t).own.stop ≡ Some stop
      → may_go ((place_after code s run).threads t).at.state ≡ false

abbrev pub RunsTellThreads : Type 0
RunsTellThreads = (x : Targets) (code : Code) (s : Shape) (ls : Labels) → IsWellTyped x code ls → Fits code s
    → IsSmall code s → (run : List Turn) → CheckedRun code s run → ThreadsAreTold code s run
