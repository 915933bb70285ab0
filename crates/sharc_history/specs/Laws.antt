-- Laws of what runs tell: it lies in their word operations alone, and not in those of failed tries.
use Rattle.std.specs.Prelude.{ℕ, ◌≡◌, ◌≤◌, false, List}
use Rattle.sharc_word.specs.declared.step.TheConstants.{THREADS}
use Rattle.sharc_code.specs.{declared.code.Code.Code, declared.shape.Shape.Shape, Runs.{Turn, word_events}}
use Rattle.sharc_code.specs.Whole.{CheckedRun, Erase, place_after}
use Rattle.sharc_threads.specs.Ends.{is_enabled}
use Rattle.sharc_seq.specs.Run.{AreChosen}
use Rattle.sharc_schedule.specs.Schedule.{Stored, schedule_of, without_tries}

-- runs with the same word operations tell the same
abbrev pub OneHistory : Type 0
OneHistory = (code : Code) (s : Shape) (one other : List Turn) → CheckedRun code s one → CheckedRun code s other
    → word_events one ≡ word_events other → Erase code s one ≡ Erase code s other

-- a run tells the same without its failed tries
abbrev pub TriesTellNothing : Type 0
TriesTellNothing = (code : Code) (s : Shape) (turns : List Turn) → CheckedRun code s turns
    → Erase code s (without_tries code s turns) ≡ Erase code s turns

-- so the run that the schedule of a run chooses tells what that run does
abbrev pub SchedulesTell : Type 0
SchedulesTell = (code : Code) (s : Shape) (limit : ℕ) (turns chosen : List Turn) → s.threads ≡ THREADS
    → CheckedRun code s turns
    → ((t : ℕ) → (place_after code s turns).made t ≤ limit)
    → ((t : ℕ) → is_enabled code s limit (place_after code s turns) t ≡ false)
    → CheckedRun code s chosen → AreChosen (Stored (schedule_of code s limit turns)) code s limit chosen
    → ((t : ℕ) → is_enabled code s limit (place_after code s chosen) t ≡ false)
    → Erase code s chosen ≡ Erase code s turns

pub record HistoryLaws : Type 0 where
  pub one : OneHistory
  pub tries : TriesTellNothing
  pub schedules : SchedulesTell
