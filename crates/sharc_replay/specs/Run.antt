-- Recorded runs of a code, and runs by a schedule, with their text and outcome.
use Rattle.std.specs.Prelude.{ℕ, ◌≡◌, ◌≤◌, false, List}
use Rattle.sharc_code.specs.{declared.code.Code.Code, declared.shape.Shape.Shape, Runs.Turn}
use Rattle.sharc_code.specs.Whole.{CheckedRun, place_after}
use Rattle.sharc_threads.specs.Ends.{is_enabled}
use Rattle.sharc_seq.specs.Run.{AreChosen}
use Rattle.sharc_schedule.specs.{File.{FileView, written}, Schedule.{schedule_of, Stored}}
use Rattle.sharc_run.specs.{declared.run.Ran.Ran, Run.IsEnd}

-- a checked run, in which no thread makes more events than this, and which ends where no thread may make a turn. These
-- places are its schedule
pub record IsRecordedRun (code : Code) (s : Shape) (limit : ℕ) (places : List (ℕ × ℕ)) (ran : Ran) : Type 0 where
  pub turns : List Turn
  pub checked : CheckedRun code s turns
  pub few : (t : ℕ) → (place_after code s turns).made t ≤ limit
  pub over : (t : ℕ) → is_enabled code s limit (place_after code s turns) t ≡ false
  pub places_are : places ≡ schedule_of code s limit turns
  pub ends : IsEnd code s limit (place_after code s turns) ran

-- what a recorded file says of it
abbrev pub file_of : List ℕ → Shape → ℕ → List (ℕ × ℕ) → FileView
file_of source s limit places = record { source = source; heap = s.heap; limit = limit; places = places }

-- the file of the source with the schedule and the text of such a run, and the outcome of the run
pub record IsRecord (source : List ℕ) (code : Code) (s : Shape) (limit : ℕ) (made : Ran) : Type 0 where
  pub places : List (ℕ × ℕ)
  pub ran : Ran
  pub run : IsRecordedRun code s limit places ran
  pub file : made.text.items ≡ written (file_of source s limit places) ran.text.items
  pub outcome : made.outcome ≡ ran.outcome

-- a checked run each of whose turns is made by the thread at the place that is written for it among those that may make
-- one, if there is such a place, and else by the first; it ends where no thread may make a turn
pub record IsScheduledRun (code : Code) (s : Shape) (places : List (ℕ × ℕ)) (limit : ℕ) (ran : Ran) : Type 0 where
  pub turns : List Turn
  pub checked : CheckedRun code s turns
  pub chosen : AreChosen (Stored places) code s limit turns
  pub over : (t : ℕ) → is_enabled code s limit (place_after code s turns) t ≡ false
  pub ends : IsEnd code s limit (place_after code s turns) ran
