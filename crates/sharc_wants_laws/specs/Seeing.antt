-- What the registers of a thread refer to is among the references of its history, or in flight.
use Rattle.std.specs.Prelude.{ℕ, ℤ, ◌≡◌, ◌<◌, List, reverse, slice_index}
use Rattle.sharc_tree.specs.declared.event.SourceEvent.{SourceEvent}
use Rattle.sharc_mode.specs.Moded.{Assignment}
use Rattle.sharc_meaning.specs.{Reference.number_of, References.{Begun, References, asked_with, in_thread}, State.wants}
use Rattle.sharc_code.specs.{declared.code.Code.Code, declared.shape.Shape.Shape}
use Rattle.sharc_code.specs.{declared.instr.Instr.TheVariants.TestSole, Machine.{instr_at, ref}, Path.begun}
use Rattle.sharc_code.specs.{Runs.{Turn, turns_of}, Whole.{CheckedRun, Erase, place_after}}
use Rattle.sharc_flat.specs.Correct.{MayStart}
use Rattle.sharc_guard.specs.Counted.{IsGivenAway}
use Rattle.sharc_compile.specs.{Consistent.IsConsistent, OfRuns.{elements_before, founds_of, told_in}}
use Rattle.sharc_invariant.specs.Words.{register_of}
use Rattle.sharc_wants_laws.specs.{Holding.lowered_of, InFlight.IsInFlight}

-- Of a register of a thread with a function that may be started: where no reference to its object is in flight, the
-- thread holds one.
abbrev pub ThreadsSee : Assignment → Code → Type 0
ThreadsSee m code = (s : Shape) (run : List Turn) → CheckedRun code s run
    → ((thread : ℕ)
    → IsConsistent code s (begun code s thread) (elements_before code s thread run) (founds_of (turns_of thread run)))
    → (thread : ℕ) → let R = reverse (told_in (Erase code s run)) in let at = (place_after code s run).threads thread in
    (b : Begun m R thread) → MayStart m b.own.function → (k n : ℕ) → register_of code at k ≡ n → 0 < n
    → (IsInFlight code at (lowered_of code s run thread) b n → ⊥) → References m R n (in_thread thread 0)

-- Where a thread looks whether a reference is the only one to its object, and two of its registers refer to it, the
-- thread holds two.
abbrev pub CastersHold : Assignment → Code → Type 0
CastersHold m code = (s : Shape) (run : List Turn) → CheckedRun code s run
    → ((thread : ℕ)
    → IsConsistent code s (begun code s thread) (elements_before code s thread run) (founds_of (turns_of thread run)))
    → (thread : ℕ) → let R = reverse (told_in (Erase code s run)) in let at = (place_after code s run).threads thread in
    (b : Begun m R thread) → MayStart m b.own.function
    → (register site : ℕ) → instr_at code at.at.pc ≡ TestSole register site
    → (i k n : ℕ) → (i ≡ k → ⊥) → slice_index at.refs i ≡ n → slice_index at.refs k ≡ n → 0 < n
    → References m R n (in_thread thread 1)

-- And what it wants to give or to free there is the object of the reference that it looks at.
abbrev pub TestersGive : Assignment → Code → Type 0
TestersGive m code = (s : Shape) (run : List Turn) → CheckedRun code s run
    → ((thread : ℕ)
    → IsConsistent code s (begun code s thread) (elements_before code s thread run) (founds_of (turns_of thread run)))
    → (thread : ℕ) → let R = reverse (told_in (Erase code s run)) in let at = (place_after code s run).threads thread in
    (b : Begun m R thread) → MayStart m b.own.function
    → (register site : ℕ) → instr_at code at.at.pc ≡ TestSole register site
    → (fuel : ℕ) (e : SourceEvent) (v : ℤ) → (asked_with b fuel).outcome ≡ wants e → IsGivenAway v e.act
    → number_of v ≡ ref at register
