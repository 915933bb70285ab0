-- How a run ended, by its causes.
use Rattle.std.specs.Prelude.{ℕ, ◌≡◌, ◌≤◌, Bool, true, false, List, Option, Some, None, if◌then◌else◌}
use Rattle.std.specs.List.{Any, All, list_any}
use Rattle.sharc_code.specs.{declared.code.Code.Code, declared.shape.Shape.Shape, declared.state.Stop.Stop}
use Rattle.sharc_code.specs.{declared.state.Stop.TheVariants.{Conflict, NoLock, NotSole, Trap}, Whole.IsStuck}
use Rattle.sharc_cpu.specs.Thread.{ThreadView, is_stop}
use Rattle.sharc_threads.specs.{declared.end.End.End, Ends.Standing, Seats.is_end}
use Rattle.sharc_threads.specs.declared.end.End.TheVariants as ends
use Rattle.sharc_run.specs.declared.outcome.Outcome.{Outcome}
use Rattle.sharc_run.specs.declared.outcome.Outcome.TheVariants.{Done, Reported, Stopped, Stuck, Limit}

-- ---- threads
-- a report (A1 to A4), and no other stop
abbrev pub is_report : Option Stop → Bool
is_report None = false
is_report (Some (Conflict c)) = true
is_report (Some (NoLock site word)) = true
is_report (Some (NotSole site count)) = true
is_report (Some (Trap trap site)) = false

abbrev pub has_reported : ThreadView → Bool
has_reported t = is_report t.machine.own.stop

abbrev pub was_stopped : ThreadView → Bool
was_stopped t = is_stop t.machine.at.state

abbrev pub has_gone : ThreadView → Bool
has_gone t = is_end t.machine.at.state

-- it has made all the events that it may, and is not gone
pub record IsSpent (limit : ℕ) (t : ThreadView) : Type 0 where
  pub on : has_gone t ≡ false
  pub made : limit ≤ t.made

-- ---- the outcome, of a run that ended at a place with these threads
-- no thread has reported, and none was stopped
pub record NoneStopped (threads : List ThreadView) : Type 0 where
  pub unreported : list_any has_reported threads ≡ false
  pub unstopped : list_any was_stopped threads ≡ false

pub data HasOutcome (code : Code) (s : Shape) (limit : ℕ) (g : Standing) (threads : List ThreadView) : Outcome
    → Type 0 where
  reported : list_any has_reported threads ≡ true → HasOutcome code s limit g threads Reported
  stopped : list_any has_reported threads ≡ false → list_any was_stopped threads ≡ true
      → HasOutcome code s limit g threads Stopped
  stuck : NoneStopped threads → IsStuck code s g → HasOutcome code s limit g threads Stuck
  limited : NoneStopped threads → ¬ IsStuck code s g → Any (IsSpent limit) threads
      → HasOutcome code s limit g threads Limit
  done : NoneStopped threads → All (λ t. has_gone t ≡ true) threads → HasOutcome code s limit g threads Done

-- ---- which one the code answers, by how the run ended
abbrev pub by_end : End → Outcome
by_end ends.AllDone = Done
by_end ends.Stuck = Stuck
by_end ends.Budget = Limit

abbrev pub outcome_of : List ThreadView → End → Outcome
outcome_of threads end =
    if list_any has_reported threads then Reported
    else (if list_any was_stopped threads then Stopped
    else by_end end)
