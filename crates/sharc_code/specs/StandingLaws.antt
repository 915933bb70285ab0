-- Laws of the places that a run of a code reaches: whose threads were started, and what turns without events leave.
use Rattle.std.specs.Prelude.{ℕ, ◌≡◌, ◌≢◌, ◌≤◌, ◌||◌, true, List, [], ◌∷◌, ◌++◌, Some}
use Rattle.sharc_code.specs.{declared.code.Code.Code, declared.shape.Shape.Shape, Machine.Machine}
use Rattle.sharc_code.specs.Runs.{Turn, Global, IsRun, MayTurn, at, is_started, turns_of}
use Rattle.sharc_code.specs.{Stages.{IsStageOf, begins_of}, Waits.waits_now, Whole.{one_thread, bounds, place_after}}

-- each thread has its number
abbrev pub NumbersAreOwn : Type 0
NumbersAreOwn = (code : Code) (s : Shape) (turns : List Turn) (t : ℕ)
    → ((place_after code s turns).threads t).own.number ≡ t

-- the words for which its stage's next step may ask are there; a New on its way has the first cell and the end of the
-- shape
abbrev pub StagesAreOfShape : Type 0
StagesAreOfShape = (code : Code) (s : Shape) (turns : List Turn) (t : ℕ)
    → IsStageOf s ((place_after code s turns).threads t).own.stage

-- a thread whose state word is 1 was started
abbrev pub StartedByWord : Type 0
StartedByWord = (code : Code) (s : Shape) (turns : List Turn) (t : ℕ)
    → is_started bounds (place_after code s turns).words t ≡ true → (place_after code s turns).started t ≡ true

-- a turn of another thread leaves the state word of a thread where it is 1
abbrev pub StartedStays : Type 0
StartedStays = (code : Code) (s : Shape) (turns : List Turn) (turn : Turn) (t : ℕ)
    → MayTurn bounds (one_thread code s) (place_after code s turns) turn → t ≢ turn.thread
    → is_started bounds (place_after code s turns).words t ≡ true
    → is_started bounds (place_after code s (turn ∷ turns)).words t ≡ true

-- a turn makes the state word of a thread 1 only where it is the last turn of a Spawn of that thread
abbrev pub SpawnsStart : Type 0
SpawnsStart = (code : Code) (s : Shape) (turns : List Turn) (turn : Turn) (t : ℕ)
    → MayTurn bounds (one_thread code s) (place_after code s turns) turn
    → begins_of ((place_after code s turns).threads turn.thread).own.stage ≢ Some t
    → is_started bounds (place_after code s (turn ∷ turns)).words t ≡ true
    → is_started bounds (place_after code s turns).words t ≡ true

-- where a run goes on by turns of threads that had been started, who was started since is determined by the words at
-- its end
abbrev pub StartedIsTold : Type 0
StartedIsTold = (code : Code) (s : Shape) (earlier later : List Turn)
    → IsRun bounds (one_thread code s) (place_after code s earlier) later
    → ((turn : Turn) (last first : List Turn) → later ≡ last ++ turn ∷ first
    → (place_after code s earlier).started turn.thread ≡ true)
    → (t : ℕ) → (at bounds (one_thread code s) (place_after code s earlier) later).started t
    ≡ (is_started bounds (at bounds (one_thread code s) (place_after code s earlier) later).words t
    || (place_after code s earlier).started t)

-- where no thread made an event the words are as they were, and each thread that made a turn waits
pub record IsIdle (code : Code) (s : Shape) (from : Global Machine) (turns : List Turn) : Type 0 where
  pub words : (at bounds (one_thread code s) from turns).words ≡ from.words
  pub waits : (t : ℕ) → turns_of t turns ≢ [] → waits_now code s from.words (from.threads t) ≡ true

abbrev pub EventlessRunsWait : Type 0
EventlessRunsWait = (code : Code) (s : Shape) (from : Global Machine) (turns : List Turn)
    → IsRun bounds (one_thread code s) from turns
    → ((t : ℕ) → (at bounds (one_thread code s) from turns).made t ≤ from.made t) → IsIdle code s from turns

-- the laws of places together
pub record StandingLaws : Type 0 where
  pub numbers : NumbersAreOwn
  pub stages : StagesAreOfShape
  pub started : StartedByWord
  pub stays : StartedStays
  pub spawns : SpawnsStart
  pub told : StartedIsTold
  pub idle : EventlessRunsWait
