-- Laws of outcomes, for the crates above.
use Rattle.std.specs.{Prelude.{ℕ, ◌≡◌, ◌&&◌, Bool, not, List, if◌then◌else◌}, List.list_any}
use Rattle.sharc_word.specs.declared.step.TheConstants.{THREADS}
use Rattle.sharc_code.specs.{declared.code.Code.Code, declared.shape.Shape.Shape, Path.may_go, Runs.Turn, Waits.held_up}
use Rattle.sharc_code.specs.Whole.{place_after}
use Rattle.sharc_cpu.specs.Thread.{ThreadView}
use Rattle.sharc_threads.specs.Ends.{AreStarted}
use Rattle.sharc_run.specs.declared.outcome.Outcome.{Outcome}
use Rattle.sharc_run.specs.declared.outcome.Outcome.TheVariants.{Done, Reported, Stopped, Stuck, Limit}
use Rattle.sharc_run.specs.Outcome.{has_reported, was_stopped, HasOutcome}

-- it is neither gone nor stopped
abbrev pub is_on : ThreadView → Bool
is_on t = may_go t.machine.at.state

-- and does not wait
abbrev pub goes_on : List ℕ → ThreadView → Bool
goes_on words t = is_on t && not (held_up words t.machine.own.number t.wait)

-- the outcome that these words and threads determine
abbrev pub outcome_told : List ℕ → List ThreadView → Outcome
outcome_told words threads =
    if list_any has_reported threads then Reported
    else (if list_any was_stopped threads then Stopped
    else (if not (list_any is_on threads) then Done
    else (if list_any (goes_on words) threads then Limit
    else Stuck)))

-- a run with these threads has no other outcome. So it has one
abbrev pub OutcomeIsTold : Type 0
OutcomeIsTold = (code : Code) (s : Shape) (limit : ℕ) (turns : List Turn) (threads : List ThreadView)
    (outcome : Outcome) → s.threads ≡ THREADS
    → AreStarted code s (place_after code s turns) threads
    → HasOutcome code s limit (place_after code s turns) threads outcome
    → outcome ≡ outcome_told (place_after code s turns).words threads
