-- What the program holds that was asked by the answers of a thread's own events is in the registers of the thread, or
-- was loaded there and is not raised yet.
use Rattle.std.specs.Prelude.{ℕ, pos, ◌≡◌, ◌+◌, ◌≤◌, ◌⊎◌, true, List, get_or, reverse, slice_index}
use Rattle.sharc_tree.specs.declared.event.SourceEvent.{SourceEvent}
use Rattle.sharc_mode.specs.Moded.{Assignment}
use Rattle.sharc_meaning.specs.References.{Begun, asked_with, refers}
use Rattle.sharc_code.specs.{declared.code.Code.Code, declared.instr.Instr.TheVariants.{Free, RaiseLoaded, TestSole}}
use Rattle.sharc_code.specs.{declared.shape.Shape.Shape, Machine.{Machine, instr_at}, Path.{begun, may_go}}
use Rattle.sharc_code.specs.{Runs.{Turn, turns_of}, Whole.{CheckedRun, Erase, place_after}}
use Rattle.sharc_flat.specs.Correct.{MayStart}
use Rattle.sharc_compile.specs.{Consistent.IsConsistent, OfRuns.{elements_before, founds_of, told_in}}
use Rattle.sharc_invariant.specs.Words.{register_of}

-- the instruction that raises it: the one at the thread's place, or the next one where the block of a freed object is
-- linked
abbrev pub IsPlaceOf : Code → Machine → ℕ → Type 0
IsPlaceOf code at place = (place ≡ at.at.pc) ⊎ ((place ≡ at.at.pc + 1)
    × ((register : ℕ) × (layout : ℕ) × (site : ℕ) × (instr_at code at.at.pc ≡ Free register layout site)))

-- the thread goes on, and has loaded a reference to the object of number n that the instruction raises
pub record IsLoadedHere (code : Code) (at : Machine) (n : ℕ) : Type 0 where
  pub place : ℕ
  pub near : IsPlaceOf code at place
  pub register : ℕ
  pub next : instr_at code place ≡ RaiseLoaded register
  pub on : may_go at.at.state ≡ true
  pub loaded : at.pending ≡ n

abbrev pub IsRegistered : Code → Machine → ℕ → Type 0
IsRegistered code at n = ((k : ℕ) × (register_of code at k ≡ n)) ⊎ IsLoadedHere code at n

-- So it is with every fuel from some fuel on. Where the thread looks whether a reference is the only one to its object,
-- each is in the register of its own place.
pub record HoldsRegistered (code : Code) (at : Machine) {m : Assignment} {R : List SourceEvent} {thread : ℕ}
    (b : Begun m R thread) : Type 0 where
  pub fuel : ℕ
  pub held : (later : ℕ) → fuel ≤ later
      → (k n : ℕ) → refers n (get_or (asked_with b later).held k (pos 0)) ≡ true → IsRegistered code at n
  pub tested : (register site : ℕ) → instr_at code at.at.pc ≡ TestSole register site
      → (later : ℕ) → fuel ≤ later
      → (k n : ℕ) → refers n (get_or (asked_with b later).held k (pos 0)) ≡ true → slice_index at.refs k ≡ n

-- so it is of each thread with a function that may be started, of a checked run by threads in any order, where the
-- results of the paths of all are consistent
abbrev pub HeldAreRegistered : Assignment → Code → Type 0
HeldAreRegistered m code = (s : Shape) (run : List Turn) → CheckedRun code s run
    → ((thread : ℕ)
    → IsConsistent code s (begun code s thread) (elements_before code s thread run) (founds_of (turns_of thread run)))
    → (thread : ℕ) → let R = reverse (told_in (Erase code s run)) in (b : Begun m R thread) → MayStart m b.own.function
    → HoldsRegistered code ((place_after code s run).threads thread) b
