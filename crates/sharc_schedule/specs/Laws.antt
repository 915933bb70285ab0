-- Laws of schedules, for the crates above.
use Rattle.std.specs.{Prelude.{ℕ, ◌≡◌, ◌≤◌, false, List, map, filter}, List.{range_with_len, All}}
use Rattle.sharc_word.specs.declared.step.TheConstants.{THREADS}
use Rattle.sharc_code.specs.{declared.code.Code.Code, declared.shape.Shape.Shape, Runs.{Turn, word_events}}
use Rattle.sharc_code.specs.{ThreadLaws.settled, Waits.wait_of, Whole.{CheckedRun, place_after}}
use Rattle.sharc_cpu.specs.Thread.{ThreadView}
use Rattle.sharc_seq.specs.{declared.run.SeqRun.SeqRun, Run.{AreChosen, IsSeqRun}}
use Rattle.sharc_threads.specs.Ends.{Standing, is_enabled, EndIs}
use Rattle.sharc_schedule.specs.File.{ArePlaces}
use Rattle.sharc_schedule.specs.Schedule.{arranged, without_tries, scheduled_turns, counted_together, one_by_one}
use Rattle.sharc_schedule.specs.Schedule.{schedule_of, Stored}

-- ---- the same ends
-- two places differ at most in whether the last turn of a thread was a failed try
pub record SameEnds (one other : Standing) : Type 0 where
  pub words : one.words ≡ other.words
  pub threads : (t : ℕ) → settled (one.threads t) ≡ settled (other.threads t)
  pub started : (t : ℕ) → one.started t ≡ other.started t
  pub made : (t : ℕ) → one.made t ≡ other.made t

-- a thread shows what the thread of its number shows at a place: its stop, what it waits for, its prints, its access
-- table, and how many events it has made
pub record Shows (code : Code) (s : Shape) (g : Standing) (t : ThreadView) : Type 0 where
  pub stop : t.machine.own.stop ≡ (g.threads t.machine.own.number).own.stop
  pub wait : wait_of code s t.machine ≡ wait_of code s (g.threads t.machine.own.number)
  pub prints : t.machine.own.prints ≡ (g.threads t.machine.own.number).own.prints
  pub table : t.machine.own.table ≡ (g.threads t.machine.own.number).own.table
  pub made : t.made ≡ g.made t.machine.own.number

-- ---- the laws
-- with the turns that have no word operation moved it is a checked run that ends in the same place
abbrev pub ArrangedRuns : Type 0
ArrangedRuns = (code : Code) (s : Shape) (turns : List Turn) → CheckedRun code s turns
    → CheckedRun code s (arranged turns) × (word_events (arranged turns) ≡ word_events turns)
    × SameEnds (place_after code s (arranged turns)) (place_after code s turns)

-- without its failed tries it is a checked run with the same ends
abbrev pub RunsWithoutTries : Type 0
RunsWithoutTries = (code : Code) (s : Shape) (turns : List Turn) → CheckedRun code s turns
    → CheckedRun code s (without_tries code s turns)
    × SameEnds (place_after code s (without_tries code s turns)) (place_after code s turns)

-- so the turns of a schedule are one
abbrev pub ScheduledRuns : Type 0
ScheduledRuns = (code : Code) (s : Shape) (turns : List Turn) → CheckedRun code s turns
    → CheckedRun code s (scheduled_turns code s turns)
    × SameEnds (place_after code s (scheduled_turns code s turns)) (place_after code s turns)

-- what is counted together is what it was
abbrev pub CountedTogether : Type 0
CountedTogether = (places : List ℕ) → one_by_one (counted_together places) ≡ places

-- the run that `run_seq` makes with the chooser of the schedule of a run in which no thread is enabled at the end is
-- that of the schedule's turns
abbrev pub SchedulesReplay : Type 0
SchedulesReplay = (code : Code) (s : Shape) (limit : ℕ) (turns chosen : List Turn) → s.threads ≡ THREADS
    → CheckedRun code s turns
    → ((t : ℕ) → (place_after code s turns).made t ≤ limit)
    → ((t : ℕ) → is_enabled code s limit (place_after code s turns) t ≡ false)
    → CheckedRun code s chosen → AreChosen (Stored (schedule_of code s limit turns)) code s limit chosen
    → ((t : ℕ) → is_enabled code s limit (place_after code s chosen) t ≡ false)
    → chosen ≡ scheduled_turns code s turns

-- what a run of `run_seq` shows is what a place shows
pub record ShowsSame (code : Code) (s : Shape) (g : Standing) (run : SeqRun) : Type 0 where
  pub words : run.words.items ≡ g.words
  pub numbers : map (λ (t : ThreadView). t.machine.own.number) run.threads.items
      ≡ filter g.started (range_with_len 0 s.threads)
  pub each : All (Shows code s g) run.threads.items
  pub end_is : EndIs code s g run.end

-- `run_seq` with the chooser of the schedule gives the words, the stops, the waits, the prints, the numbers of events
-- and the access tables of the run
abbrev pub ReplaysShow : Type 0
ReplaysShow = (code : Code) (s : Shape) (limit : ℕ) (turns : List Turn) (run : SeqRun) → s.threads ≡ THREADS
    → CheckedRun code s turns
    → ((t : ℕ) → (place_after code s turns).made t ≤ limit)
    → ((t : ℕ) → is_enabled code s limit (place_after code s turns) t ≡ false)
    → IsSeqRun (Stored (schedule_of code s limit turns)) code s limit run
    → ShowsSame code s (place_after code s turns) run

-- a recorded file can say the schedule
abbrev pub SchedulesFit : Type 0
SchedulesFit = (code : Code) (s : Shape) (limit : ℕ) (turns : List Turn) → s.threads ≡ THREADS → CheckedRun code s turns
    → ((t : ℕ) → (place_after code s turns).made t ≤ limit) → limit ≤ 200000
    → ArePlaces (schedule_of code s limit turns)

pub record ScheduleLaws : Type 0 where
  pub arrange : ArrangedRuns
  pub without : RunsWithoutTries
  pub scheduled : ScheduledRuns
  pub together : CountedTogether
  pub replay : SchedulesReplay
  pub show : ReplaysShow
  pub fit : SchedulesFit
