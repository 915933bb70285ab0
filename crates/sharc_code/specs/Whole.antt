-- The checked runs of a code: what its threads do, what a run reports of the source, and where it is stuck.
use Rattle.std.specs.Prelude.{ℕ, ◌≡◌, true, List, [], ◌∷◌, map, Option, Some, None}
use Rattle.sharc_word.specs.{declared.step.TheConstants.THREADS, declared.step.WordEvent.WordEvent, Place.event_of}
use Rattle.sharc_tree.specs.declared.event.SourceEvent.{SourceEvent}
use Rattle.sharc_code.specs.{declared.code.Code.Code, declared.shape.Shape.Shape, Machine.{Machine, instr_at}}
use Rattle.sharc_code.specs.{Opening.opening_words, Path.{begun, machine_after, turn, after, asked_by, may_go, counted}}
use Rattle.sharc_code.specs.{Says.{says, speaks_of, elements_in}, Waits.waits_now}
use Rattle.sharc_code.specs.Runs.{Said, OneThread, Bounds, Turn, turn_with, Global, CheckedRunOf, at, opening_of, erase}
use Rattle.sharc_code.specs.Machine as Step

-- ---- runs
abbrev pub one_thread : Code → Shape → OneThread Machine SourceEvent
one_thread code s = record {
  start = begun code s;
  runs = λ m. may_go m.at.state;
  asks = λ m. asked_by (turn code s m);
  goes = λ m found. after (turn code s m) found;
  counts = λ m. counted m.at.state;
  pairs = λ earlier m found. elements_in (map (λ said. said.told) earlier) (speaks_of (instr_at code m.at.pc) m found);
  says = says code;
}

-- no thread makes more than 100,000,000 events
abbrev pub bounds : Bounds
bounds = record { threads = THREADS; limit = 100000000 }

-- a list of turns of threads of this code, the newest first
abbrev pub CheckedRun : Code → Shape → List Turn → Type 0
CheckedRun code s turns = CheckedRunOf bounds (one_thread code s) (opening_words code s) turns

-- where it is
abbrev pub place_after : Code → Shape → List Turn → Global Machine
place_after code s turns =
    at bounds (one_thread code s) (opening_of bounds (one_thread code s) (opening_words code s)) turns

-- its source events, the newest first
abbrev pub Erase : Code → Shape → List Turn → List (Said SourceEvent)
Erase code s turns =
    erase bounds (one_thread code s) (opening_of bounds (one_thread code s) (opening_words code s)) turns

-- ---- waiting
abbrev pub Waits : Code → Shape → Global Machine → ℕ → Type 0
Waits code s g t = waits_now code s g.words (g.threads t) ≡ true

-- it is neither gone nor stopped
abbrev pub IsOn : Global Machine → ℕ → Type 0
IsOn g t = (g.started t ≡ true) × (may_go (g.threads t).at.state ≡ true)

-- some thread is on, and every such thread waits
pub record IsStuck (code : Code) (s : Shape) (g : Global Machine) : Type 0 where
  pub some : (t : ℕ) × IsOn g t
  pub all : (t : ℕ) → IsOn g t → Waits code s g t

abbrev pub Stuck : Code → Shape → List Turn → Type 0
Stuck code s turns = IsStuck code s (place_after code s turns)

-- ---- paths as turns
-- the event of a turn of this thread, if its step was made
abbrev pub event_in : ℕ → Step.Turn → ℕ → Option WordEvent
event_in t (Step.Local m) found = None
event_in t (Step.Asks step go) found = Some (event_of t step found)

-- the turns of a path of this thread from a machine
abbrev pub turns_by : Code → Shape → ℕ → Machine → List ℕ → List Turn
turns_by code s t m [] = []
turns_by code s t m (found ∷ earlier) =
    turn_with t (event_in t (turn code s (machine_after code s m earlier)) found) ∷ turns_by code s t m earlier
