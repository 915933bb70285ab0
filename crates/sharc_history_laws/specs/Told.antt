-- What the state words say at each place of a checked run: who was started, and who has ended.
use Rattle.std.specs.Prelude.{ℕ, ◌≡◌, ◌≢◌, ◌<◌, ◌≤◌, ◌↔◌, false, List, Some, slice_index}
use Rattle.sharc_word.specs.declared.step.TheConstants.{THREADS}
use Rattle.sharc_code.specs.{declared.code.Code.Code, declared.shape.Shape.Shape}
use Rattle.sharc_code.specs.{declared.state.TurnState.TheVariants.Ended, Layout.state_word, Machine.Machine}
use Rattle.sharc_code.specs.{Runs.{Turn, Global}, Stages.drawn_of, Whole.{CheckedRun, place_after}}

-- the state word of a thread
abbrev pub state_of : Global Machine → ℕ → ℕ
state_of g t = slice_index g.words (state_word t)

-- it is 0 before the thread is started, 3 where it has ended, and 1 or 2 between
pub record TellsState (g : Global Machine) (t : ℕ) : Type 0 where
  pub few : state_of g t ≤ 3
  pub waits : state_of g t ≡ 0 ↔ (g.started t ≡ false)
  pub ended : state_of g t ≡ 3 ↔ ((g.threads t).at.state ≡ Ended)

-- of each thread that there may be, wherever a run is
abbrev pub StatesAreTold : Type 0
StatesAreTold = (code : Code) (s : Shape) (turns : List Turn) → CheckedRun code s turns
    → (t : ℕ) → t < THREADS → TellsState (place_after code s turns) t

-- the number that a Spawn has drawn is that of a thread that was not started, and no other Spawn has drawn it
pub record IsNew (g : Global Machine) (t n : ℕ) : Type 0 where
  pub few : n < THREADS
  pub some : n ≢ 0
  pub waits : g.started n ≡ false
  pub one : (u : ℕ) → drawn_of (g.threads u).own.stage ≡ Some n → u ≡ t

abbrev pub SpawnsAreNew : Type 0
SpawnsAreNew = (code : Code) (s : Shape) (turns : List Turn) → CheckedRun code s turns
    → (t n : ℕ) → drawn_of ((place_after code s turns).threads t).own.stage ≡ Some n
    → IsNew (place_after code s turns) t n
