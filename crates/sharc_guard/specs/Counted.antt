-- Guarded code whose checks pass asks for what flat code asks for, and counts what flat code holds.
use Rattle.std.specs.Prelude.{true, false, slice_get, ◌-◌, ◌≡◌, ◌≢◌, ℕ, zero, suc, ℤ, pos, ◌+◌, ◌*◌, ◌<◌, ◌≤◌, ◌⊎◌}
use Rattle.std.specs.Prelude.{Bool, List, [], ◌∷◌, ◌++◌, length, Some}
use Rattle.sharc_tree.specs.{declared.token.Site.Site, declared.event.Act.Act, declared.event.CellAt.CellAt}
use Rattle.sharc_tree.specs.{declared.event.CellMode.CellMode, declared.event.TakeKind.TakeKind}
use Rattle.sharc_tree.specs.declared.event.Act.TheVariants as acts
use Rattle.sharc_tree.specs.declared.event.CellMode.TheVariants as modes
use Rattle.sharc_tree.specs.declared.event.Taken.TheVariants as taken
use Rattle.sharc_heap.specs.declared.shadow_word.Kind.{Kind}
use Rattle.sharc_heap.specs.declared.shadow_word.Kind.TheVariants as kinds
use Rattle.sharc_code.specs.declared.instr.Instr.{Instr}
use Rattle.sharc_code.specs.declared.instr.Instr.TheVariants.{Null, Raise, RaiseLoaded, Lower, MoveReference, New}
use Rattle.sharc_code.specs.declared.instr.Instr.TheVariants.{TakeCell, TakeLocal, Unlock}
use Rattle.sharc_code.specs.{declared.instr.Cell.Cell, declared.code.PlaceMode.PlaceMode}
use Rattle.sharc_code.specs.declared.code.PlaceMode.TheVariants.{LockedSibling}
use Rattle.sharc_meaning.specs.declared.given.GivenUp.{GivenUp}
use Rattle.sharc_meaning.specs.{declared.given.GivenUp.TheVariants.{Released, Replaced, Emptied}, Reference.number_of}
use Rattle.sharc_meaning.specs.State.{Outcome, ended, stopped}
use Rattle.sharc_flat.specs.{declared.op.Op.Op, declared.op.Spot.Spot}
use Rattle.sharc_flat.specs.Machine.{Flat, At, Turn, goes, asks, halts, turn, start, cell_at, lock_is_null}
use Rattle.sharc_flat.specs.Path.{at_after, IsPath as IsFlatPath, asked}
use Rattle.sharc_flat.specs.declared.op.Op.TheVariants as op
use Rattle.sharc_guard.specs.Machine as Form
use Rattle.sharc_guard.specs.Machine.{Program, Thread, Check, Accesses, Locks, IsSole, Ended, Stopped, source_at}
use Rattle.sharc_guard.specs.Machine.{statement_at, ref}
use Rattle.sharc_guard.specs.{Path.{started, thread_after, IsPath, weight_in}, Guard.guarded, Level.IsLevel}
use Rattle.sharc_guard.specs.Asked.{guarded_asked, moves}

-- ---- what comes next
-- the act is a read of this cell, a write or a take of it, in mode dynamic
abbrev pub IsAccess : Kind → CellAt → Act → Type 0
IsAccess kinds.Read cell act = act ≡ acts.Read cell modes.Dynamic
IsAccess kinds.Write cell act = ((v : ℤ) × (act ≡ acts.Write cell modes.Dynamic v))
    ⊎ ((kind : TakeKind) × (act ≡ acts.Take (taken.Cell cell modes.Dynamic) kind))

-- an access under this mutex
abbrev pub IsUnder : CellAt → Act → Type 0
IsUnder mutex (acts.Read cell mode) = mode ≡ modes.Locked (Some mutex)
IsUnder mutex (acts.Write cell mode v) = mode ≡ modes.Locked (Some mutex)
IsUnder mutex (acts.Take (taken.Cell cell mode) kind) = mode ≡ modes.Locked (Some mutex)
IsUnder mutex _ = ⊥

-- the reference is given or freed
abbrev pub IsGivenAway : ℤ → Act → Type 0
IsGivenAway v (acts.Give w mode) = w ≡ v
IsGivenAway v (acts.Freed w) = w ≡ v
IsGivenAway v _ = ⊥

abbrev pub IsOf : Check → Act → Type 0
IsOf (Accesses kind cell) act = IsAccess kind cell act
IsOf (Locks mutex) act = IsUnder mutex act
IsOf (IsSole v) act = IsGivenAway v act

abbrev pub IsEnd : Program → Form.Outcome → Outcome → Type 0
IsEnd p Ended o = o ≡ ended
IsEnd p (Stopped trap site) o = o ≡ stopped trap (source_at p site).site

-- What guarded code asks for or checks is what flat code wants, and where it ends or is stopped, flat code ends or is
-- stopped so.
abbrev pub Tells : Program → Form.Turn → Turn → Type 0
Tells p (Form.Goes b) t = Unit {0}
Tells p (Form.Asks site act go) (asks m2 site2 act2 held f) = (site ≡ site2) × (act ≡ act2)
Tells p (Form.Asks site act go) _ = ⊥
Tells p (Form.Checks check site b) (asks m2 site2 act held f) = ((source_at p site).site ≡ site2) × IsOf check act
Tells p (Form.Checks check site b) _ = ⊥
Tells p (Form.Halts o) (halts o2) = IsEnd p o o2
Tells p (Form.Halts o) _ = ⊥

-- ---- what is held
-- A register where guarded code has not what flat code has, by the statement that is next: the reference that was
-- loaded is raised into it, the old value of a cell is lowered, or a reference moves from one to the other.
abbrev pub IsSettling : Instr → Thread → At → ℕ → Type 0
IsSettling (RaiseLoaded r) a m k = (k ≡ a.refs_from + r) × (a.refs k ≡ pos 0) × (a.pending ≡ m.refs k)
IsSettling (Lower r) a m k = (k ≡ a.refs_from + r) × (m.refs k ≡ pos 0)
IsSettling (MoveReference r from) a m k =
    ((k ≡ a.refs_from + r) × (a.refs k ≡ pos 0) × (a.refs (a.refs_from + from) ≡ m.refs k))
    ⊎ ((k ≡ a.refs_from + from) × (m.refs k ≡ pos 0) × (a.refs k ≡ m.refs (a.refs_from + r)))
IsSettling _ a m k = ⊥

-- Each reference that flat code holds is counted in the same register, and every other register is NULL, but for what
-- the next statement settles.
abbrev pub Held : Program → At → Thread → Type 0
Held p m a = (k : ℕ) → (a.refs k ≡ m.refs k) ⊎ IsSettling (statement_at p a.pc) a m k

-- What flat code gave up since its last event is what guarded code lowered, one for one: of a cell that was replaced
-- its old value, and what is emptied is lowered within one statement.
abbrev pub AreLowered : List GivenUp → List ℕ → Type 0
AreLowered [] [] = Unit {0}
AreLowered [] (n ∷ ns) = ⊥
AreLowered (Released g ∷ gs) [] = ⊥
AreLowered (Released g ∷ gs) (n ∷ ns) = (n ≡ g) × AreLowered gs ns
AreLowered (Replaced c ∷ gs) [] = ⊥
AreLowered (Replaced c ∷ gs) (n ∷ ns) = AreLowered gs ns
AreLowered (Emptied g ∷ gs) ns = AreLowered gs ns

-- a register that gets a reference, and whose own is not given up by that, is NULL before
abbrev pub OverwritesNone : Instr → Thread → Type 0
OverwritesNone (Null r) a = ref a r ≡ pos 0
OverwritesNone (Raise r from) a = ref a r ≡ pos 0
OverwritesNone (RaiseLoaded r) a = ref a r ≡ pos 0
OverwritesNone (MoveReference r from) a = (r ≡ from) ⊎ (ref a r ≡ pos 0)
OverwritesNone (New r count cells site) a = ref a r ≡ pos 0
OverwritesNone (TakeCell r cell site) a = ref a r ≡ pos 0
OverwritesNone (TakeLocal r from site) a = ref a r ≡ pos 0
OverwritesNone (Unlock r cell site) a = ref a r ≡ pos 0
OverwritesNone _ a = Unit {0}

-- ---- what is on its way to be given up
abbrev pub IsReleased : List GivenUp → ℕ → Type 0
IsReleased [] n = ⊥
IsReleased (Released g ∷ gs) n = (g ≡ n) ⊎ IsReleased gs n
IsReleased (_ ∷ gs) n = IsReleased gs n

-- this many turns of flat code that ask for nothing
abbrev pub Quietly : Flat → ℕ → At → At → Type 0
Quietly flat zero m m2 = m ≡ m2
Quietly flat (suc n) m m2 = (mid : At) × (turn flat m ≡ goes mid) × Quietly flat n mid m2

-- a reference is still held, or it is among what was given up since
pub record OnWay (v : ℤ) (m m2 : At) : Type 0 where
  pub more : List GivenUp
  pub given_is : m2.given ≡ m.given ++ more
  pub stays : ((k : ℕ) × (m2.refs k ≡ v)) ⊎ IsReleased more (number_of v)

-- the old value of a cell, which is lowered next
pub record IsReplaced (p : Program) (m : At) (a : Thread) (k : ℕ) : Type 0 where
  pub register : ℕ
  pub next : statement_at p a.pc ≡ Lower register
  pub at : k ≡ a.refs_from + register
  pub cell : CellAt
  pub given : m.given ≡ Replaced cell ∷ []
  pub none : a.lowered ≡ []

-- What guarded code counts is held by flat code wherever that comes to its next want or stop, or is given up on the way
-- there, after what is lowered by now.
abbrev pub InFlight : Flat → Program → At → Thread → Type 0
InFlight flat p m a = (k : ℕ) → a.refs k ≢ pos 0
    → IsReplaced p m a k ⊎ ((n : ℕ) (m2 : At) → Quietly flat n m m2 → OnWay (a.refs k) m m2)

-- ---- the theorem
-- Guarded code at a is where flat code at m is.
pub record MatchesFlat (flat : Flat) (p : Program) (m : At) (a : Thread) : Type 0 where
  pub events : a.events ≡ m.events
  pub function : a.function ≡ m.function
  pub tells : Tells p (Form.turn p a) (turn flat m)
  pub held : Held p m a
  pub lowered : AreLowered m.given a.lowered ⊎ ((c : CellAt) × (m.given ≡ Replaced c ∷ []) × (a.lowered ≡ []))
  pub overwrites : OverwritesNone (statement_at p a.pc) a
  pub flight : InFlight flat p m a

-- an access of a cell of mode dynamic or locked
abbrev pub IsGuardedMode : CellMode → Type 0
IsGuardedMode modes.Dynamic = Unit {0}
IsGuardedMode (modes.Locked mutex) = Unit {0}
IsGuardedMode _ = ⊥

abbrev pub NeedsCheck : Act → Type 0
NeedsCheck (acts.Read cell mode) = IsGuardedMode mode
NeedsCheck (acts.Write cell mode v) = IsGuardedMode mode
NeedsCheck (acts.Take (taken.Cell cell mode) kind) = IsGuardedMode mode
NeedsCheck _ = ⊥

-- the last turn was its check
abbrev pub IsPassed : Act → Form.Turn → Type 0
IsPassed act (Form.Checks check site b) = IsOf check act
IsPassed act _ = ⊥

abbrev pub WasChecked : Program → Thread → List ℤ → Act → Type 0
WasChecked p begun [] act = ⊥
WasChecked p begun (x ∷ earlier) act = IsPassed act (Form.turn p (thread_after p begun earlier))

-- Flat code comes to where guarded code is, by the same events and answers.
pub record HasCome (dropped : ℕ → Bool) (flat : Flat) (p : Program) (from : At) (begun : Thread)
    (answers : List ℤ) : Type 0 where
  pub flat_answers : List ℤ
  pub path : IsFlatPath flat from flat_answers
  pub stands : MatchesFlat flat p (at_after flat from flat_answers) (thread_after p begun answers)
  pub same_answers : asked flat from flat_answers ≡ guarded_asked p begun answers
  -- the statements but those that enter an expression are no more than the turns
  pub few : moves flat from flat_answers ≤ length answers
  -- the turns of the code are at most four for each statement of flat code, and four more
  pub pace : weight_in p begun answers ≤ 4 * length flat_answers + 4
  -- an access of a cell of mode dynamic or locked is made directly after its check, if that is not dropped
  pub checked : (at : Site) (act : Act) (go : ℤ → Thread)
      → Form.turn p (thread_after p begun answers) ≡ Form.Asks at act go → NeedsCheck act
      → (dropped (at_after flat from flat_answers).pc ≡ true) ⊎ WasChecked p begun answers act

abbrev pub Guards : (ℕ → Bool) → Flat → Program → Type 0
Guards dropped flat p = (f : ℕ) (v : ℤ) → f < length flat.functions → (answers : List ℤ)
    → IsPath p (started p f v) answers → HasCome dropped flat p (start flat f v) (started p f v) answers

-- where the lock of an access is a mutex of the same element, the operation names the cell of that mutex
abbrev pub IsBeside : Flat → At → Cell → Spot → PlaceMode → Type 0
IsBeside flat m cell spot (LockedSibling field mutex) =
    lock_is_null m spot spot.mode ≡ false → let c = cell_at flat.globals m cell in cell_at flat.globals m spot.lock
    ≡ record { object = c.object; cell = c.cell - field + mutex }
IsBeside flat m cell spot mode = Unit {0}

abbrev pub LockStands : Flat → At → Op → Type 0
LockStands flat m (op.Load i cell spot) = IsBeside flat m cell spot spot.mode
LockStands flat m (op.Store i cell spot) = IsBeside flat m cell spot spot.mode
LockStands flat m (op.LoadRef r cell spot) = IsBeside flat m cell spot spot.mode
LockStands flat m (op.StoreRef r cell spot) = IsBeside flat m cell spot spot.mode
LockStands flat m (op.TakeCell r cell spot) = IsBeside flat m cell spot spot.mode
LockStands flat m o = Unit {0}

-- on all paths
abbrev pub LocksFrom : Flat → At → Type 0
LocksFrom flat from = (answers : List ℤ) → IsFlatPath flat from answers → (o : Op)
    → slice_get flat.lines (at_after flat from answers).pc ≡ Some o → LockStands flat (at_after flat from answers) o

abbrev pub LocksStand : Flat → Type 0
LocksStand flat = (f : ℕ) (v : ℤ) → f < length flat.functions → LocksFrom flat (start flat f v)

abbrev pub GuardedCounts : Type 0
GuardedCounts = (dropped : ℕ → Bool) (flat : Flat) → IsLevel flat → LocksStand flat
    → Guards dropped flat (guarded dropped flat)
