-- What the reports of checked runs of typed code show.
use Rattle.std.specs.Prelude.{◌≡◌, ℕ, ◌+◌, ◌<◌, ◌≤◌, List, ◌∷◌, ◌++◌, Some, false, slice_index}
use Rattle.sharc_tree.specs.declared.event.CellAt.{CellAt}
use Rattle.sharc_code.specs.{declared.code.Code.Code, declared.instr.Instr.Instr}
use Rattle.sharc_code.specs.declared.instr.Instr.TheVariants.{ChkLock, ChkLockLoaded, TestSole}
use Rattle.sharc_code.specs.{declared.shape.Shape.Shape, declared.state.Stop.TheVariants.{NoLock, NotSole}}
use Rattle.sharc_code.specs.{Layout.{Fits, count_word}, Machine.{Machine, instr_at, ref}, Runs.{Turn, Global}}
use Rattle.sharc_code.specs.{Says.{cell_at, made_cell}, Whole.{CheckedRun, place_after}}
use Rattle.sharc_meaning.specs.{Events.{events_of, holds_mutex}, Obeys.History}
use Rattle.sharc_invariant.specs.{Types.Targets, Labels.Labels, Typed.IsWellTyped, World.ObjectState, Words.argument_of}
use Rattle.sharc_invariant.specs.{State.IsSmall, Opened.{first_world, first_place}, Objects.objects_after}
use Rattle.sharc_invariant.specs.MachineInvariant.{register_refers, log_refers, hand_refers, cell_refers, references_to}
use Rattle.sharc_history_laws.specs.History.{history_of}

-- the instruction, at this site, looks for the mutex in this cell: the one that it names, or that to which a pointer
-- refers that was loaded
abbrev pub IsLockCheck : Code → Machine → Instr → ℕ → CellAt → Type 0
IsLockCheck code m (ChkLock c at) site mutex = (at ≡ site) × (mutex ≡ cell_at code m c)
IsLockCheck code m (ChkLockLoaded at) site mutex = (at ≡ site) × (mutex ≡ made_cell m.pending 0)
IsLockCheck code m _ site mutex = ⊥

-- by its events the thread does not hold the mutex that the check at its place looks for
pub record LacksLock (code : Code) (R : History) (thread : ℕ) (m : Machine) (site : ℕ) : Type 0 where
  pub mutex : CellAt
  pub check : IsLockCheck code m (instr_at code m.at.pc) site mutex
  pub unheld : holds_mutex (events_of thread R) mutex ≡ false

-- so it is of each thread that has stopped at a lock check
abbrev pub LockReportsShow : Type 0
LockReportsShow = (x : Targets) (code : Code) (s : Shape) (ls : Labels) → IsWellTyped x code ls → Fits code s
    → IsSmall code s
    → (run : List Turn) → CheckedRun code s run
    → (t site word : ℕ) → ((place_after code s run).threads t).own.stop ≡ Some (NoLock site word)
    → LacksLock code (history_of code s run) t ((place_after code s run).threads t) site

-- ---- casts of objects that others refer to
-- a reference to object o besides that in register k of thread t
pub data OtherReference (x : Targets) (code : Code) (s : Shape) (g : Global Machine) (obj : ℕ → ObjectState)
    (t k o : ℕ) : Type 0 where
  InRegister : (u i : ℕ) → ((u ≡ t) × (i ≡ k) → ⊥) → register_refers code g u i ≡ o
      → OtherReference x code s g obj t k o
  InArgument : (u : ℕ) → argument_of code g u ≡ o → OtherReference x code s g obj t k o
  InLog : (u word : ℕ) → log_refers g u word ≡ o → OtherReference x code s g obj t k o
  InHand : (u : ℕ) → hand_refers g u ≡ o → OtherReference x code s g obj t k o
  InCell : (p i : ℕ) → cell_refers x s g obj p i ≡ o → OtherReference x code s g obj t k o

-- at a test of a register of thread t, with this place before it, this count was found in the object's count word: it
-- is the number of references to it, at least 2, and one of them is another than the register tested
pub record CountsOthers (x : Targets) (code : Code) (s : Shape) (g : Global Machine) (obj : ℕ → ObjectState)
    (t register count : ℕ) : Type 0 where
  pub word : slice_index g.words (count_word s (ref (g.threads t) register)) ≡ count
  pub number : count ≡ references_to x code s g obj (ref (g.threads t) register)
  pub some : 2 ≤ count
  pub other : OtherReference x code s g obj t ((g.threads t).at.refs + register) (ref (g.threads t) register)

-- the turn of the test in a run, the turns after it, and those before it, each list with its last turn first
pub record FindsOthers (x : Targets) (code : Code) (s : Shape) (ls : Labels) (run : List Turn)
    (t site count : ℕ) : Type 0 where
  pub later : List Turn
  pub test : Turn
  pub earlier : List Turn
  pub parts : run ≡ later ++ test ∷ earlier
  pub thread : test.thread ≡ t
  pub register : ℕ
  pub is_test : instr_at code ((place_after code s earlier).threads t).at.pc ≡ TestSole register site
  -- it is a reference to an object
  pub some : 0 < ref ((place_after code s earlier).threads t) register
  pub counts : CountsOthers x code s (place_after code s earlier)
      (objects_after code s ls (first_place code s) (first_world x).obj earlier) t register count

-- so it is of each thread that has stopped at such a test
abbrev pub CastReportsShow : Type 0
CastReportsShow = (x : Targets) (code : Code) (s : Shape) (ls : Labels) → IsWellTyped x code ls → Fits code s
    → IsSmall code s
    → (run : List Turn) → CheckedRun code s run
    → (t site count : ℕ) → ((place_after code s run).threads t).own.stop ≡ Some (NotSole site count)
    → FindsOthers x code s ls run t site count
