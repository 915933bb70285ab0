-- Laws of checked runs, for the crates above.
use Rattle.std.specs.Prelude.{ℕ, ◌+◌, ◌≡◌, ◌≢◌, ◌≤◌, ◌↔◌, false, List, ◌++◌}
use Rattle.sharc_word.specs.{Words.words_after, declared.step.WordEvent.WordEvent}
use Rattle.sharc_tree.specs.declared.event.SourceEvent.{SourceEvent}
use Rattle.sharc_code.specs.{declared.code.Code.Code, declared.shape.Shape.Shape, Machine.Machine}
use Rattle.sharc_code.specs.Path.{may_go, counted, machine_after, events_of_path, IsPath as IsCodePath}
use Rattle.sharc_code.specs.Path.{made_in as made_in_path}
use Rattle.sharc_code.specs.Runs.{IsPath, Owns, Parts, Round, OneThread, Bounds, Turn, Global, CheckedFrom, IsRun}
use Rattle.sharc_code.specs.Runs.{MayTurn, opening_of, at, after_turn, state_now, state_after, made_in, turns_of}
use Rattle.sharc_code.specs.Runs.{word_events, was_started, erase, said_by, path_says, pairs_of, scheduled, threads_of}
use Rattle.sharc_code.specs.{Opening.opening_words, Whole.{turns_by, one_thread, bounds, CheckedRun}}
use Rattle.sharc_code.specs.ThreadLaws.{ThreadLaws}

-- a checked run is a run by turns of the whole machine, and the other way round
abbrev pub CheckedRunsAreRuns : Type 0
CheckedRunsAreRuns = (code : Code) (s : Shape) (turns : List Turn)
    → CheckedRun code s turns
    ↔ IsRun bounds (one_thread code s) (opening_of bounds (one_thread code s) (opening_words code s)) turns

-- so it is from any place at which no thread has made more events than it may
abbrev pub RunsFromPlaces : Type 0
RunsFromPlaces = (b : Bounds) (code : Code) (s : Shape) (from : Global Machine) (turns : List Turn)
    → ((t : ℕ) → from.made t ≤ b.limit)
    → CheckedFrom b (one_thread code s) from turns ↔ IsRun b (one_thread code s) from turns

-- runs join, and come in parts
abbrev pub RunsJoin : Type 0
RunsJoin = (b : Bounds) (code : Code) (s : Shape) (from : Global Machine) (later earlier : List Turn)
    → IsRun b (one_thread code s) from (later ++ earlier)
    ↔ (IsRun b (one_thread code s) from earlier
    × IsRun b (one_thread code s) (at b (one_thread code s) from earlier) later)

-- and so do the places to which they lead
abbrev pub PlacesJoin : Type 0
PlacesJoin = (b : Bounds) (code : Code) (s : Shape) (from : Global Machine) (later earlier : List Turn)
    → at b (one_thread code s) from (later ++ earlier)
    ≡ at b (one_thread code s) (at b (one_thread code s) from earlier) later

-- where a run is: the words are those that its events leave, each thread is where its turns lead, and has made as many
-- events as there are turns of it that are no failed tries
pub record StandsWhere (b : Bounds) (m : OneThread Machine SourceEvent) (from : Global Machine)
    (turns : List Turn) : Type 0 where
  pub words : (at b m from turns).words ≡ words_after from.words (word_events turns)
  pub threads : (t : ℕ) → (at b m from turns).threads t ≡ state_after m (from.threads t) (turns_of t turns)
  pub started : (t : ℕ) → (at b m from turns).started t ≡ was_started b from t turns
  pub made : (t : ℕ) → (at b m from turns).made t ≡ from.made t + made_in m (from.threads t) (turns_of t turns)

abbrev pub RunsStandThere : Type 0
RunsStandThere = (b : Bounds) (code : Code) (s : Shape) (from : Global Machine) (turns : List Turn)
    → StandsWhere b (one_thread code s) from turns

-- no thread makes more events than it may
abbrev pub EventsAreFew : Type 0
EventsAreFew = (b : Bounds) (code : Code) (s : Shape) (from : Global Machine) (turns : List Turn)
    → ((t : ℕ) → from.made t ≤ b.limit)
    → IsRun b (one_thread code s) from turns → (t : ℕ) → (at b (one_thread code s) from turns).made t ≤ b.limit

-- a turn counts as an event exactly where it is no failed try
abbrev pub TurnsCount : Type 0
TurnsCount = (b : Bounds) (code : Code) (s : Shape) (g : Global Machine) (turn : Turn)
    → (after_turn b (one_thread code s) g turn).made turn.thread
    ≡ g.made turn.thread + counted (state_now (one_thread code s) g turn).at.state

-- a turn changes no other thread
abbrev pub OthersStay : Type 0
OthersStay = (b : Bounds) (code : Code) (s : Shape) (g : Global Machine) (turn : Turn) (other : ℕ) → other ≢ turn.thread
    → ((after_turn b (one_thread code s) g turn).threads other ≡ g.threads other)
    × ((after_turn b (one_thread code s) g turn).made other ≡ g.made other)

-- a thread that is stopped or gone makes no turn
abbrev pub StoppedMakeNone : Type 0
StoppedMakeNone = (b : Bounds) (code : Code) (s : Shape) (g : Global Machine) (turn : Turn)
    → may_go (g.threads turn.thread).at.state ≡ false → ¬ MayTurn b (one_thread code s) g turn

-- the source events of a run are by thread those of the paths
abbrev pub ErasedByThread : Type 0
ErasedByThread = (b : Bounds) (code : Code) (s : Shape) (from : Global Machine) (turns : List Turn) (t : ℕ)
    → said_by t (erase b (one_thread code s) from turns)
    ≡ path_says (one_thread code s) t (from.threads t) (turns_of t turns) (pairs_of b (one_thread code s) from t turns)

-- a run is that of its schedule
abbrev pub RunsAreScheduled : Type 0
RunsAreScheduled = (b : Bounds) (code : Code) (s : Shape) (from : Global Machine) (turns : List Turn)
    → IsRun b (one_thread code s) from turns → turns ≡ scheduled b (one_thread code s) from (threads_of turns)

-- a path of one thread, as turns
pub record IsPathOf (code : Code) (s : Shape) (t : ℕ) (m : Machine) (founds : List ℕ) (turns : List Turn) : Type 0 where
  pub path : IsPath (one_thread code s) m turns
  pub own : Owns t turns
  pub machine : state_after (one_thread code s) m turns ≡ machine_after code s m founds
  pub events : t ≡ m.own.number → word_events turns ≡ events_of_path code s m founds
  pub made : made_in (one_thread code s) m turns ≡ made_in_path code s m founds

-- the found words of a path are turns, with the same events
abbrev pub PathsAreTurns : Type 0
PathsAreTurns = (code : Code) (s : Shape) (t : ℕ) (m : Machine) (founds : List ℕ) → IsCodePath code s m founds
    → IsPathOf code s t m founds (turns_by code s t m founds)

-- paths of started threads, whose word events are the parts of one history, are a checked run from where they began
pub record IsMerged (b : Bounds) (m : OneThread Machine SourceEvent) (from : Global Machine) (paths : ℕ → List Turn)
    (history : List WordEvent) : Type 0 where
  pub turns : List Turn
  pub parts : (t : ℕ) → turns_of t turns ≡ paths t
  pub events : word_events turns ≡ history
  pub run : CheckedFrom b m from turns
  pub words : (at b m from turns).words ≡ words_after from.words history
  pub threads : (t : ℕ) → (at b m from turns).threads t ≡ state_after m (from.threads t) (paths t)

abbrev pub RoundsAreRuns : Type 0
RoundsAreRuns = (b : Bounds) (code : Code) (s : Shape) (from : Global Machine) (n : ℕ) (paths : ℕ → List Turn)
    (history : List WordEvent)
    → Parts n paths history → Round b (one_thread code s) from paths history
    → IsMerged b (one_thread code s) from paths history

-- the laws of checked runs together, with those of each turn
pub record RunLaws : Type 0 where
  pub checked : CheckedRunsAreRuns
  pub from_places : RunsFromPlaces
  pub join : RunsJoin
  pub places_join : PlacesJoin
  pub stands : RunsStandThere
  pub few : EventsAreFew
  pub counts : TurnsCount
  pub others : OthersStay
  pub stopped : StoppedMakeNone
  pub erased : ErasedByThread
  pub is_scheduled : RunsAreScheduled
  pub paths : PathsAreTurns
  pub rounds : RoundsAreRuns
  pub turns : ThreadLaws
