-- Code in which each check is directly before the access that it is of, and what then comes of checks and of reports.
use Rattle.std.specs.Prelude.{◌≡◌, ℕ, ◌+◌, Bool, true, false, List, [], ◌∷◌, ◌++◌, Option, Some, None}
use Rattle.sharc_tree.specs.{declared.event.CellAt.CellAt, declared.event.SourceEvent.SourceEvent}
use Rattle.sharc_tree.specs.declared.event.CellMode.TheVariants as modes
use Rattle.sharc_heap.specs.declared.shadow_word.Kind.{Kind}
use Rattle.sharc_code.specs.{declared.code.Code.Code, declared.code.PlaceMode.PlaceMode}
use Rattle.sharc_code.specs.declared.code.PlaceMode.TheVariants.{Dynamic, LockedGlobal, LockedSibling, LockedThrough}
use Rattle.sharc_code.specs.declared.code.PlaceMode.TheVariants.{LockedLoaded}
use Rattle.sharc_code.specs.{declared.instr.Cell.Cell, declared.instr.Instr.Instr}
use Rattle.sharc_code.specs.declared.instr.Instr.TheVariants.{ChkRead, ChkWrite, ChkLock, ChkLockLoaded, Load, Store}
use Rattle.sharc_code.specs.declared.instr.Instr.TheVariants.{LoadRef, Exchange, TakeCell}
use Rattle.sharc_code.specs.{declared.shape.Shape.Shape, declared.state.Stop.TheVariants.NoLock, Layout.Fits}
use Rattle.sharc_code.specs.{Machine.{Machine, instr_at}, Path.may_go, Runs.{Turn, told_by, turns_of}}
use Rattle.sharc_code.specs.{Says.{cell_at, mode_of, place_at}, Whole.{CheckedRun, Erase, one_thread, place_after}}
use Rattle.sharc_meaning.specs.{Events.{Access, access_by, events_of, holds_mutex}, Obeys.{History, Obeys, Until}}
use Rattle.sharc_invariant.specs.{Types.Targets, Labels.Labels, Typed.IsWellTyped, State.IsSmall}
use Rattle.sharc_history_laws.specs.{Conflicts.IsCheck, History.history_of, Reports.IsLockCheck}

-- ---- accesses of a code
-- the instruction accesses this cell, at this site
abbrev pub Accesses : (write : Bool) → Cell → (site : ℕ) → Instr → Type 0
Accesses false c site (Load r d at) = (c ≡ d) × (site ≡ at)
Accesses false c site (LoadRef d at) = (c ≡ d) × (site ≡ at)
Accesses true c site (Store r d at) = (c ≡ d) × (site ≡ at)
Accesses true c site (Exchange r d at) = (c ≡ d) × (site ≡ at)
Accesses true c site (TakeCell r d at) = (c ≡ d) × (site ≡ at)
Accesses write c site i = ⊥

-- the mode of the site is a lock that a ChkLock looks for
abbrev pub IsLocked : PlaceMode → Type 0
IsLocked (LockedGlobal g place) = Unit {0}
IsLocked (LockedSibling field mutex) = Unit {0}
IsLocked (LockedThrough r place) = Unit {0}
IsLocked mode = ⊥

-- the second instruction is the access that the first one, if it is a check, is a check of
abbrev pub IsFollowed : Code → Instr → Instr → Type 0
IsFollowed code (ChkRead c site) i = ((place_at code site).mode ≡ Dynamic) × Accesses false c site i
IsFollowed code (ChkWrite c site) i = ((place_at code site).mode ≡ Dynamic) × Accesses true c site i
IsFollowed code (ChkLock m site) i =
    IsLocked (place_at code site).mode × ((write : Bool) × (c : Cell) × Accesses write c site i)
IsFollowed code (ChkLockLoaded site) i =
    ((place_at code site).mode ≡ LockedLoaded) × ((write : Bool) × (c : Cell) × Accesses write c site i)
IsFollowed code check i = Unit {0}

abbrev pub ChecksAreFollowed : Code → Type 0
ChecksAreFollowed code = (pc : ℕ) → IsFollowed code (instr_at code pc) (instr_at code (pc + 1))

-- ---- accesses of a run
abbrev pub access_to : Code → Machine → Cell → (site : ℕ) → (write : Bool) → Access
access_to code m c site write = record {
  cell = cell_at code m c;
  mode = mode_of code m (cell_at code m c) (place_at code site).mode;
  is_write = write;
}

-- the access that a thread of this machine makes by this instruction
abbrev pub access_of : Code → Machine → Instr → Option Access
access_of code m (Load r c site) = Some (access_to code m c site false)
access_of code m (Store r c site) = Some (access_to code m c site true)
access_of code m (LoadRef c site) = Some (access_to code m c site false)
access_of code m (Exchange r c site) = Some (access_to code m c site true)
access_of code m (TakeCell r c site) = Some (access_to code m c site true)
access_of code m _ = None

-- that of the next instruction, which the check at the thread's place is a check of
abbrev pub access_checked : Code → Machine → Option Access
access_checked code m = access_of code m (instr_at code (m.at.pc + 1))

-- the turn after these tells this access, at this site
pub record TellsAccess (code : Code) (s : Shape) (before : List Turn) (turn : Turn) (site : ℕ)
    (a : Access) : Type 0 where
  pub event : SourceEvent
  pub told : told_by (one_thread code s) (Erase code s before) (place_after code s before) turn ≡ Some event
  pub thread : event.thread ≡ turn.thread
  pub at : event.site ≡ (place_at code site).site
  pub is : access_by event.act ≡ Some a

-- After a check of thread j, and these turns: the thread is next to make the access, or it has made it, by its first
-- turn of these.
pub data Follows (code : Code) (s : Shape) (later : List Turn) (check : Turn) (earlier : List Turn) (j site : ℕ)
    (a : Access) : Type 0 where
  IsNext : turns_of j later ≡ [] → may_go ((place_after code s (later ++ check ∷ earlier)).threads j).at.state ≡ true
      → access_of code ((place_after code s (later ++ check ∷ earlier)).threads j)
      (instr_at code ((place_after code s (later ++ check ∷ earlier)).threads j).at.pc) ≡ Some a
      → Follows code s later check earlier j site a
  IsMade : (after : List Turn) (turn : Turn) (between : List Turn) → later ≡ after ++ turn ∷ between → turn.thread ≡ j
      → turns_of j between ≡ []
      → TellsAccess code s (between ++ check ∷ earlier) turn site a → Follows code s later check earlier j site a

-- the access that a check is of, which then follows where the check passed
pub record IsOfAccess (code : Code) (s : Shape) (later : List Turn) (check : Turn) (earlier : List Turn) (j site : ℕ)
    (passed : Bool) : Type 0 where
  pub access : Access
  pub is : access_checked code ((place_after code s earlier).threads j) ≡ Some access
  pub dynamic : access.mode ≡ modes.Dynamic
  pub follows : passed ≡ true → Follows code s later check earlier j site access

-- so it is of each check of a dynamic access
abbrev pub AccessesFollow : Type 0
AccessesFollow = (x : Targets) (code : Code) (s : Shape) (ls : Labels) → IsWellTyped x code ls → Fits code s
    → IsSmall code s → ChecksAreFollowed code
    → (run later : List Turn) (check : Turn) (earlier : List Turn) → CheckedRun code s run
    → run ≡ later ++ check ∷ earlier
    → (j : ℕ) (kind : Kind) (granule site : ℕ) (passed : Bool) → IsCheck code s earlier check j kind granule site passed
    → IsOfAccess code s later check earlier j site passed

-- ---- reports of locks
-- The mode of the access that was refused names the mutex that the check looks for, and the thread does not hold it by
-- its events.
pub record ShowsLock (code : Code) (R : History) (thread : ℕ) (m : Machine) (site : ℕ) : Type 0 where
  pub mutex : CellAt
  pub check : IsLockCheck code m (instr_at code m.at.pc) site mutex
  pub access : Access
  pub is : access_checked code m ≡ Some access
  pub mode : access.mode ≡ modes.Locked (Some mutex)
  pub unheld : holds_mutex (events_of thread R) mutex ≡ false

-- so it is of each thread that has stopped at a lock check
abbrev pub LockReportsShowAccess : Type 0
LockReportsShowAccess = (x : Targets) (code : Code) (s : Shape) (ls : Labels) → IsWellTyped x code ls → Fits code s
    → IsSmall code s → ChecksAreFollowed code
    → (run : List Turn) → CheckedRun code s run
    → (t site word : ℕ) → ((place_after code s run).threads t).own.stop ≡ Some (NoLock site word)
    → ShowsLock code (history_of code s run) t ((place_after code s run).threads t) site

-- so no history that keeps the rules goes on with that access
abbrev pub LockReportsBreakRules : Type 0
LockReportsBreakRules = (x : Targets) (code : Code) (s : Shape) (ls : Labels) → IsWellTyped x code ls → Fits code s
    → IsSmall code s → ChecksAreFollowed code
    → (run : List Turn) → CheckedRun code s run
    → (t site word : ℕ) → ((place_after code s run).threads t).own.stop ≡ Some (NoLock site word)
    → (e : SourceEvent) → e.thread ≡ t → access_by e.act ≡ access_checked code ((place_after code s run).threads t)
    → (until : Until) → Obeys (history_of code s run ++ e ∷ []) until → ⊥
