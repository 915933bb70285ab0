-- What the modes demand of a run: the accesses that count, and the six rules (the SharC paper).
use Rattle.std.specs.{Prelude.{◌≡◌, ◌≢◌, ℕ, ◌==◌, Bool, true, false, ◌||◌, List, ◌∷◌, ◌++◌, Some}, List.list_any}
use Rattle.sharc_tree.specs.{declared.event.Act.Act, declared.event.Act.TheVariants.{Return, Gone}}
use Rattle.sharc_tree.specs.declared.event.CellAt.{CellAt}
use Rattle.sharc_tree.specs.declared.event.CellMode.TheVariants.{Private, Readonly, Locked, Dynamic}
use Rattle.sharc_tree.specs.{declared.event.Object.Object, declared.event.Object.TheVariants.{Global, Made}}
use Rattle.sharc_tree.specs.declared.event.SourceEvent.{SourceEvent}
use Rattle.sharc_mode.specs.Moded.{Assignment}
use Rattle.sharc_meaning.specs.Events.{granule_of, Access, access_by, begins, frees, Stands, events_of, latest}
use Rattle.sharc_meaning.specs.Events.{holds_mutex}
use Rattle.sharc_meaning.specs.{Runs.SourceRun, Store.{is_live, meets}}

abbrev pub History : Type 0
History = List SourceEvent

-- the event is this access
abbrev pub IsAccess : SourceEvent → Access → Type 0
IsAccess e a = access_by e.act ≡ Some a

-- ---- access sets

-- an access counts until its thread returns, or until it is gone
pub data Until : Type 0 where
  until_return : Until
  until_gone : Until

abbrev pub ends : Until → Act → Bool
ends until_return Return = true
ends until_gone Gone = true
ends _ _ = false

-- The access is in the access set of a granule of an object, after these events: it is of mode dynamic, the object had
-- no New and no Give since, and neither had its thread the end that is given.
pub record AccessSet (R : History) (o : Object) (granule : ℕ) (until : Until) (e : SourceEvent)
    (a : Access) : Type 0 where
  pub before : History
  pub after : History
  pub stands : Stands R before e after
  pub access : IsAccess e a
  pub object : a.cell.object ≡ o
  pub granule_is : granule_of a.cell ≡ granule
  pub is_dynamic : a.mode ≡ Dynamic
  pub begun : list_any (begins o) after ≡ false
  pub ended : list_any (λ d. ends until d.act) (events_of e.thread after) ≡ false

-- ---- the rules

-- the object is a global, or it is live
abbrev pub IsThere : History → Object → Type 0
IsThere before (Global g) = Unit {0}
IsThere before (Made n) = is_live before (Made n) ≡ true

-- 1: each access is to a global or to a live object
abbrev pub ToLive : History → Type 0
ToLive R = (before : History) (e : SourceEvent) (after : History) (a : Access) → Stands R before e after → IsAccess e a
    → IsThere before a.cell.object

-- 2: from a New or Give of an object to its next Give or Freed each cell is accessed under one mode, and a cell of a
-- global always
abbrev pub UnderOneMode : History → Type 0
UnderOneMode R =
    (before : History) (d : SourceEvent) (between : History) (e : SourceEvent) (after : History) (a b : Access)
    → R ≡ before ++ d ∷ (between ++ e ∷ after) → IsAccess d a → IsAccess e b → a.cell ≡ b.cell
    → list_any (λ x. begins a.cell.object x || frees a.cell.object x) between ≡ false → a.mode ≡ b.mode

-- the thread of the last New or Give of an object owns it, thread 0 a global
abbrev pub is_owner : History → Object → ℕ → Bool
is_owner before (Global g) thread = thread == 0
is_owner before (Made n) thread = meets (λ e. e.thread == thread) (latest (begins (Made n)) before)

-- 3: a private cell is accessed by its owner alone
abbrev pub ByOwner : History → Type 0
ByOwner R = (before : History) (e : SourceEvent) (after : History) (a : Access) → Stands R before e after → IsAccess e a
    → a.mode ≡ Private
    → is_owner before a.cell.object e.thread ≡ true

-- 4: no write is made under mode readonly
abbrev pub Unwritten : History → Type 0
Unwritten R = (before : History) (e : SourceEvent) (after : History) (a : Access) → Stands R before e after
    → IsAccess e a → a.mode ≡ Readonly → a.is_write ≡ false

-- 5: at an access under a lock the thread holds that mutex
abbrev pub UnderLock : History → Type 0
UnderLock R = (before : History) (e : SourceEvent) (after : History) (a : Access) (mutex : CellAt)
    → Stands R before e after → IsAccess e a → a.mode ≡ Locked (Some mutex)
    → holds_mutex (events_of e.thread before) mutex ≡ true

-- 6: at no place does an access set hold accesses by two threads of which one is a write
abbrev pub ReadSharedOrOwn : History → Until → Type 0
ReadSharedOrOwn R until = (earlier later : History) (o : Object) (granule : ℕ) (d e : SourceEvent) (a b : Access)
    → R ≡ earlier ++ later
    → AccessSet earlier o granule until d a → AccessSet earlier o granule until e b → d.thread ≢ e.thread
    → (a.is_write || b.is_write) ≡ false

pub record Obeys (R : History) (until : Until) : Type 0 where
  pub live : ToLive R
  pub one_mode : UnderOneMode R
  pub owner : ByOwner R
  pub unwritten : Unwritten R
  pub under_lock : UnderLock R
  pub shared : ReadSharedOrOwn R until

-- every run of the program without checks obeys, where an access counts until its thread is gone
abbrev pub AlwaysObeys : Assignment → Type 0
AlwaysObeys m = (R : History) → SourceRun m R → Obeys R until_gone
