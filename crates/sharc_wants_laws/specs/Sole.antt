-- Where a thread looks whether a reference is the only one to its object: another one that a register has is among the
-- references of the history.
use Rattle.std.specs.Prelude.{ℕ, ◌≡◌, ◌⊎◌, ◌+◌, ◌<◌, List, [], reverse}
use Rattle.sharc_tree.specs.declared.event.SourceEvent.{SourceEvent}
use Rattle.sharc_mode.specs.Moded.{Assignment}
use Rattle.sharc_meaning.specs.{Events.events_of, References.{Begun, Holder, References, in_thread}}
use Rattle.sharc_code.specs.{declared.code.Code.Code, declared.shape.Shape.Shape}
use Rattle.sharc_code.specs.{declared.instr.Instr.TheVariants.TestSole, Machine.{Machine, instr_at, ref}, Path.begun}
use Rattle.sharc_code.specs.{Runs.{Global, Turn, turns_of}, Whole.{CheckedRun, Erase, place_after}}
use Rattle.sharc_flat.specs.Correct.{MayStart}
use Rattle.sharc_compile.specs.{Consistent.IsConsistent, OfRuns.{elements_before, founds_of, told_in}}
use Rattle.sharc_invariant.specs.MachineInvariant.{hand_refers, register_refers}
use Rattle.sharc_wants_laws.specs.{Holding.lowered_of, InFlight.IsInFlight}

-- by the history something refers to the object of number n that is not the first reference of thread t
pub record IsSeen (m : Assignment) (R : List SourceEvent) (t n : ℕ) : Type 0 where
  pub holder : Holder
  pub other : holder ≡ in_thread t 0 → ⊥
  pub refers_there : References m R n holder

-- a thread without events has nothing in its registers and in its hand
pub record AreQuiet (code : Code) (R : List SourceEvent) (g : Global Machine) : Type 0 where
  pub registers : (thread i : ℕ) → events_of thread R ≡ [] → register_refers code g thread i ≡ 0
  pub hands : (thread : ℕ) → events_of thread R ≡ [] → hand_refers g thread ≡ 0

-- each thread has no event, or it has begun with a function that may be started
abbrev pub HaveBegun : Assignment → List SourceEvent → Type 0
HaveBegun m R = (thread : ℕ) → (events_of thread R ≡ []) ⊎ ((b : Begun m R thread) × MayStart m b.own.function)

-- no other thread than t has a reference to the object in flight
abbrev pub NoneIsInFlight : (m : Assignment) → Code → Shape → List Turn → List SourceEvent → ℕ → ℕ → Type 0
NoneIsInFlight m code s run R t n = (u : ℕ) → (u ≡ t → ⊥)
    → (b : Begun m R u) → IsInFlight code ((place_after code s run).threads u) (lowered_of code s run u) b n → ⊥

-- so it is of each other register with the reference that thread t tests, where no other thread has one in flight
abbrev pub RegistersAreSeen : Assignment → Code → Type 0
RegistersAreSeen m code = (s : Shape) (run : List Turn) → CheckedRun code s run
    → ((thread : ℕ)
    → IsConsistent code s (begun code s thread) (elements_before code s thread run) (founds_of (turns_of thread run)))
    → let R = reverse (told_in (Erase code s run)) in let g = place_after code s run in HaveBegun m R
    → AreQuiet code R g
    → (t register site : ℕ) → instr_at code (g.threads t).at.pc ≡ TestSole register site
    → (n : ℕ) → ref (g.threads t) register ≡ n → 0 < n → NoneIsInFlight m code s run R t n
    → (u i : ℕ) → ((u ≡ t) × (i ≡ (g.threads t).at.refs + register) → ⊥) → register_refers code g u i ≡ n
    → IsSeen m R t n
