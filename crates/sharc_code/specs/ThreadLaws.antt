-- Laws of one turn of a thread, whatever its instruction is.
use Rattle.std.specs.Prelude.{ℕ, ◌≡◌, ◌↔◌, ◌≤◌, ◌+◌, true, List, Option, length, slice_index}
use Rattle.sharc_word.specs.declared.step.WordEvent.{WordEvent}
use Rattle.sharc_code.specs.{declared.code.Code.Code, declared.shape.Shape.Shape, declared.state.Stage.Stage}
use Rattle.sharc_code.specs.{declared.state.TurnState.TurnState, declared.state.TurnState.TheVariants.{Runs, Tries, Stopped, Ended}}
use Rattle.sharc_code.specs.{Machine.{Machine, Own, Turn, Local, Asks, fails}, Path.{turn, after, asked_by, may_go}}
use Rattle.sharc_code.specs.{Runs.{result_of, step_of, words_now, Answered}, Stages.IsStageOf, Waits.waits_now}
use Rattle.sharc_code.specs.{Aims.TurnsAim, Outcomes.TurnsComeOut, Says.TurnsTell}

-- what the word of its step holds, where the turn asks for one
abbrev pub found_now : List ℕ → Turn → ℕ
found_now words (Local m) = 0
found_now words (Asks step go) = slice_index words step.word

-- the machine after a turn with the words as they are
abbrev pub behind : Code → Shape → List ℕ → Machine → Machine
behind code s words m = after (turn code s m) (found_now words (turn code s m))

-- no turn changes the thread's number
abbrev pub NumberStays : Type 0
NumberStays = (code : Code) (s : Shape) (m : Machine) (found : ℕ)
    → (after (turn code s m) found).own.number ≡ m.own.number

-- a failed try changes nothing else
abbrev pub TriesChangeNothing : Type 0
TriesChangeNothing = (code : Code) (s : Shape) (m : Machine) (found : ℕ)
    → (after (turn code s m) found).at.state ≡ Tries → after (turn code s m) found ≡ fails m

-- a thread that waits would make a failed try, and where its next turn would be one it waits
abbrev pub WaitsWhereItFails : Type 0
WaitsWhereItFails = (code : Code) (s : Shape) (words : List ℕ) (m : Machine) → may_go m.at.state ≡ true
    → (waits_now code s words m ≡ true) ↔ ((behind code s words m).at.state ≡ Tries)

-- a failed try leaves the words as they are
abbrev pub TriesLeaveWords : Type 0
TriesLeaveWords = (code : Code) (s : Shape) (words : List ℕ) (m : Machine) (event : Option WordEvent)
    → step_of event ≡ asked_by (turn code s m) → Answered words event
    → (after (turn code s m) (result_of event)).at.state ≡ Tries → words_now words event ≡ words

-- a thread of which it is forgotten whether its last turn was a failed try
abbrev pub settle : TurnState → TurnState
settle Runs = Runs
settle Tries = Runs
settle Stopped = Stopped
settle Ended = Ended

abbrev pub settled : Machine → Machine
settled m = record m { at = record m.at { state = settle m.at.state } }

-- a turn does not look at whether the turn before was a failed try
abbrev pub TurnsForgetTries : Type 0
TurnsForgetTries = (code : Code) (s : Shape) (m : Machine) → turn code s (settled m) ≡ turn code s m

-- what a turn keeps of what a thread has for itself: a row for each granule, its number, all its prints and at most one
-- more, and what holds of its stage
pub record Keeps (P : Stage → Type 0) (own new : Own) : Type 0 where
  pub rows : length new.table.notes ≡ length own.table.notes
  pub number : new.number ≡ own.number
  pub prints : length new.prints ≤ length own.prints + 1
  pub stage : P own.stage → P new.stage

-- every turn keeps that, and that the stage is one of the shape
abbrev pub TurnsKeep : Type 0
TurnsKeep = (code : Code) (s : Shape) (m : Machine) (found : ℕ)
    → Keeps (IsStageOf s) m.own (after (turn code s m) found).own

-- the laws of a turn together
pub record ThreadLaws : Type 0 where
  pub number : NumberStays
  pub tries : TriesChangeNothing
  pub waits : WaitsWhereItFails
  pub words : TriesLeaveWords
  pub forgets : TurnsForgetTries
  pub keeps : TurnsKeep
  pub outcomes : TurnsComeOut
  pub aims : TurnsAim
  pub tells : TurnsTell
