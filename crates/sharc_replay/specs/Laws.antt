-- Laws of recorded runs, for the crates above.
use Rattle.std.specs.Prelude.{ℕ, ◌≡◌, ◌≤◌, List}
use Rattle.sharc_code.specs.{declared.code.Code.Code, declared.shape.Shape.Shape, Layout.Fits, Whole.place_after}
use Rattle.sharc_schedule.specs.{File.{FileView, IsFile, HoldsNoSchedule, written}, Laws.SameEnds}
use Rattle.sharc_schedule.specs.Schedule.{scheduled_turns}
use Rattle.sharc_run.specs.declared.run.Ran.{Ran}
use Rattle.sharc_replay.specs.Run.{file_of, IsRecordedRun, IsRecord, IsScheduledRun}

-- what is written of a recorded run is a file that says its source, heap, limit and schedule, and nothing else, where
-- no newline of the source is followed by the word of the schedule
pub record IsOneFile (source bytes : List ℕ) (s : Shape) (limit : ℕ) (places : List (ℕ × ℕ)) : Type 0 where
  pub file : IsFile bytes (file_of source s limit places)
  pub only : (other : FileView) → IsFile bytes other → other ≡ file_of source s limit places

abbrev pub RecordsAreFiles : Type 0
RecordsAreFiles = (source : List ℕ) (code : Code) (s : Shape) (limit : ℕ) (made : Ran)
    (is : IsRecord source code s limit made) → Fits code s → 1 ≤ limit → limit ≤ 200000 → HoldsNoSchedule source
    → IsOneFile source made.text.items s limit is.places

-- the run by the schedule of a recorded run makes its turns, in the order of the schedule and without the failed tries,
-- so it has the same ends
pub record MakesSame (code : Code) (s : Shape) (limit : ℕ) (places : List (ℕ × ℕ)) (ran again : Ran)
    (is : IsRecordedRun code s limit places ran) (by : IsScheduledRun code s places limit again) : Type 0 where
  pub turns : by.turns ≡ scheduled_turns code s is.turns
  pub ends : SameEnds (place_after code s by.turns) (place_after code s is.turns)

abbrev pub ReplaysMakeSame : Type 0
ReplaysMakeSame = (code : Code) (s : Shape) (limit : ℕ) (places : List (ℕ × ℕ)) (ran again : Ran)
    (is : IsRecordedRun code s limit places ran) (by : IsScheduledRun code s places limit again) → Fits code s
    → MakesSame code s limit places ran again is by

-- two runs have one text and one outcome
pub record SaysSame (ran again : Ran) : Type 0 where
  pub text : ran.text.items ≡ again.text.items
  pub outcome : ran.outcome ≡ again.outcome

-- so what is written of the recorded run is the file with the text of the run by its schedule, and both have one
-- outcome
pub record IsReplayed (source : List ℕ) (s : Shape) (limit : ℕ) (places : List (ℕ × ℕ))
    (made again : Ran) : Type 0 where
  pub file : made.text.items ≡ written (file_of source s limit places) again.text.items
  pub outcome : made.outcome ≡ again.outcome

abbrev pub ReplaysWriteSame : Type 0
ReplaysWriteSame = (source : List ℕ) (code : Code) (s : Shape) (limit : ℕ) (made again : Ran)
    (is : IsRecord source code s limit made) → Fits code s → IsScheduledRun code s is.places limit again
    → IsReplayed source s limit is.places made again

pub record ReplayLaws : Type 0 where
  pub files : RecordsAreFiles
  pub same : ReplaysMakeSame
  pub again : ReplaysWriteSame
