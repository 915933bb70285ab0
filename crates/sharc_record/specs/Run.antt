-- Recorded runs, and how they end.
use Rattle.std.specs.Prelude.{ℕ, ◌≡◌, List}
use Rattle.sharc_code.specs.{declared.code.Code.Code, declared.shape.Shape.Shape, Runs.Turn, Whole.place_after}
use Rattle.sharc_threads.specs.Ends.{AreStarted, EndIs}
use Rattle.sharc_schedule.specs.{Journal.IsJournalOf, Schedule.schedule_of}
use Rattle.sharc_record.specs.declared.run.Recorded.{Recorded}

-- A checked run, in which no thread makes more events than this, and which ends where no thread is enabled. Its word
-- events are the journal, its schedule the places
pub record IsRecorded (code : Code) (s : Shape) (limit : ℕ) (run : Recorded) : Type 0 where
  pub turns : List Turn
  pub journal_is : IsJournalOf code s limit run.journal.items turns
  pub places_are : run.places ≡ schedule_of code s limit turns
  pub words : run.words.items ≡ (place_after code s turns).words
  pub threads : AreStarted code s (place_after code s turns) run.threads.items
  pub end_is : EndIs code s (place_after code s turns) run.end
