-- Laws of recorded runs, for the crates above.
use Rattle.std.specs.Prelude.{ℕ, ◌≡◌, ◌≤◌, List}
use Rattle.sharc_code.specs.{declared.code.Code.Code, declared.shape.Shape.Shape, Layout.Fits, Whole.place_after}
use Rattle.sharc_schedule.specs.{File.{FileView, IsFile, HoldsNoSchedule, written}, Schedule.Stored, Laws.ShowsSame}
use Rattle.sharc_seq.specs.{declared.run.SeqRun.SeqRun, Run.IsSeqRun}
use Rattle.sharc_record.specs.{declared.run.Recorded.Recorded, Run.IsRecorded}

-- what a recorded file says of a run
abbrev pub file_of : List ℕ → Shape → ℕ → Recorded → FileView
file_of source s limit run = record { source = source; heap = s.heap; limit = limit; places = run.places }

-- the bytes that are written of it are a file that says this and nothing else, and the run of `run_seq` by its places
-- shows what the recorded run does: words, stops, waits, prints, numbers of events, access tables and end
pub record Replays (code : Code) (s : Shape) (limit : ℕ) (source text : List ℕ) (run : Recorded)
    (is : IsRecorded code s limit run) : Type 0 where
  pub file : IsFile (written (file_of source s limit run) text) (file_of source s limit run)
  pub only : (other : FileView) → IsFile (written (file_of source s limit run) text) other
      → other ≡ file_of source s limit run
  pub shows : (again : SeqRun) → IsSeqRun (Stored run.places) code s limit again
      → ShowsSame code s (place_after code s is.turns) again

-- so it is of each recorded run, whatever text is written after its schedule, where no newline of the source is
-- followed by the word of the schedule
abbrev pub RecordsReplay : Type 0
RecordsReplay = (code : Code) (s : Shape) (limit : ℕ) (source text : List ℕ) (run : Recorded)
    (is : IsRecorded code s limit run) → Fits code s → 1 ≤ limit → limit ≤ 200000
    → HoldsNoSchedule source → Replays code s limit source text run is
