-- Typed code: what each instruction asks of what is known at its place, and what the next place, and the target of a
-- jump, may then know.
use Rattle.std.specs.Prelude.{ℕ, pos, ◌+◌, ◌-◌, ◌*◌, ◌^◌, ◌≡◌, ◌≢◌, ◌<◌, ◌≤◌, ◌⊎◌, ◌==◌, ◌&&◌, Bool, true, false, List}
use Rattle.std.specs.Prelude.{[], ◌∷◌, length, filter, nat_lt, Option, Some, None, slice_index, slice_index_or}
use Rattle.std.specs.Prelude.{if◌then◌else◌}
use Rattle.sharc_code.specs.{declared.code.Code.Code, declared.code.PlaceMode.PlaceMode, declared.instr.Cell.Cell}
use Rattle.sharc_code.specs.{declared.instr.Width.Width, declared.instr.Width.TheVariants.{Char, Int, Long}}
use Rattle.sharc_code.specs.declared.instr.Operator.{Operator}
use Rattle.sharc_code.specs.declared.instr.Operator.TheVariants.{ShiftLeft, ShiftRight, Equal, NotEqual, Less, Greater}
use Rattle.sharc_code.specs.declared.instr.Operator.TheVariants.{AtMost, AtLeast}
use Rattle.sharc_code.specs.{declared.instr.Register.Register, declared.instr.Instr.Instr}
use Rattle.sharc_code.specs.declared.instr.Instr.TheVariants.{Constant, Move, MoveReference, Null, ComputeInt}
use Rattle.sharc_code.specs.declared.instr.Instr.TheVariants.{ComputeLong, NegateInt, NegateLong, Complement, Not}
use Rattle.sharc_code.specs.declared.instr.Instr.TheVariants.{SameReference as CompareReferences, ChkWidth, Jump}
use Rattle.sharc_code.specs.declared.instr.Instr.TheVariants.{JumpIfZero, JumpIfNull, Call, Return, ChkNull, ChkHeld}
use Rattle.sharc_code.specs.declared.instr.Instr.TheVariants.{ChkNotHeld, ChkPositive, ChkRoom, ChkLock, ChkLockLoaded}
use Rattle.sharc_code.specs.declared.instr.Instr.TheVariants.{Bounds, GlobalBounds, ChkRead, ChkWrite, Load, Store}
use Rattle.sharc_code.specs.declared.instr.Instr.TheVariants.{LoadRef, Exchange, Raise, RaiseLoaded, Lower, New}
use Rattle.sharc_code.specs.declared.instr.Instr.TheVariants.{TakeCell, TakeLocal, TestSole, Clear, Give, Free}
use Rattle.sharc_code.specs.declared.instr.Instr.TheVariants.{Lock as LockCell, Unlock, Spawn, Join, Print, Start, Exit}
use Rattle.sharc_code.specs.declared.instr.Instr.TheVariants.{CondEnter, CondWait, CondSignal, CondBroadcast}
use Rattle.sharc_code.specs.{Arithmetic.{holds, int_of}, Machine.{function_of, instr_at, layout_at}}
use Rattle.sharc_code.specs.{Says.{place_at, no_global}, Runs.put}
use Rattle.sharc_code.specs.declared.code.Parameter.TheVariants as parameters
use Rattle.sharc_code.specs.declared.code.PlaceMode.TheVariants as modes
use Rattle.sharc_code.specs.declared.instr.Cell.TheVariants as cells
use Rattle.sharc_code.specs.declared.instr.Register.TheVariants as registers
use Rattle.sharc_invariant.specs.Types.{Targets, AreTargets, Lock, StaticType, FieldLock, FieldMode, Content, Field}
use Rattle.sharc_invariant.specs.Types.{FieldType, field_at, field_of_cell, global_field, cells_of, is_pointer}
use Rattle.sharc_invariant.specs.Types.{is_private, Mentions}
use Rattle.sharc_invariant.specs.Types.Lock.{Global, Through, Self}
use Rattle.sharc_invariant.specs.Types.FieldLock.{OfType, OfGlobals, OfElement as OfSameElement}
use Rattle.sharc_invariant.specs.Types.FieldMode.{Private, Readonly, Racy, Dynamic, Under, Behind}
use Rattle.sharc_invariant.specs.Types.Content.{Integer, MutexWord, Waiters, Pointer}
use Rattle.sharc_invariant.specs.Labels.{Entry, Empty, Refers, Unknown, Element, Named, Nth, Number, Anything, Exactly}
use Rattle.sharc_invariant.specs.Labels.{Within, Indexes, OfElement, OfGlobal, Gate, Closed, Checked, Holds, Loaded}
use Rattle.sharc_invariant.specs.Labels.{HoldsLoaded, Sole, Pass, IsIn, Label, Signature, Labels, SameReference}
use Rattle.sharc_invariant.specs.Labels.{SameLock, AllSame, LessEntry, LessNumber, Leads, EntryMentions}
use Rattle.sharc_invariant.specs.Labels.{HasBase as NumberHasBase, HasName, Fresh, IsScoped, set_number, fill, empty}
use Rattle.sharc_invariant.specs.Labels.{forgets, gated, knows, without_base, IsFree}

-- ---- frames
-- the registers of each bank that a frame of the function has
abbrev pub refs_in : Code → Option ℕ → ℕ
refs_in code None = 0
refs_in code (Some f) = (function_of code f).refs

abbrev pub ints_in : Code → Option ℕ → ℕ
ints_in code None = 0
ints_in code (Some f) = (function_of code f).ints

abbrev pub IsRef : Code → Label → ℕ → Type 0
IsRef code l r = r < refs_in code l.function

abbrev pub IsInt : Code → Label → ℕ → Type 0
IsInt code l r = r < ints_in code l.function

-- thread 0 alone runs the code
abbrev pub IsAlone : Labels → Label → Type 0
IsAlone ls l = (f : ℕ) × ((l.function ≡ Some f) × ((ls.signature f).alone ≡ true))

-- ---- cells
-- the global has a cell of this number, counted from granule 0
pub record IsInGlobal (code : Code) (global place : ℕ) : Type 0 where
  pub is : global < length code.globals.items
  pub from : 2 * (slice_index_or code.globals.items global no_global).granule ≤ place
  pub until : place < 2 * (slice_index_or code.globals.items global no_global).granule
      + (slice_index_or code.globals.items global no_global).cells

-- the cell is there where its base is not NULL, and it is one of this field
abbrev pub HasField : Targets → Code → Label → Cell → Field → Type 0
HasField x code l (cells.Global g p) f = IsInGlobal code g p × (f ≡ global_field x (p - 2))
HasField x code l (cells.GlobalAt g i) f =
    (first : ℕ) × (count : ℕ) × (elements : ℕ) × (e : Element) × (l.ints i ≡ OfGlobal first count elements e)
    × ((n : ℕ) → n < elements → IsInGlobal code g (first + n * count) × (f ≡ global_field x (first + n * count - 2)))
HasField x code l (cells.Object r i) f =
    IsRef code l r × ((s : StaticType) × (l.env r ≡ Refers s) × (i < cells_of x s.target) × (f ≡ field_at x s.target i))
HasField x code l (cells.ObjectAt r i) f = IsRef code l r
    × ((s : StaticType) × (field : ℕ) × (e : Element) × (l.env r ≡ Refers s) × (l.ints i ≡ OfElement r field e)
    × (field < cells_of x s.target) × (f ≡ field_at x s.target field))

-- its base is not NULL
abbrev pub HasBase : Label → Cell → Type 0
HasBase l (cells.Global g p) = Unit {0}
HasBase l (cells.GlobalAt g i) = Unit {0}
HasBase l (cells.Object r i) = l.known r ≡ true
HasBase l (cells.ObjectAt r i) = l.known r ≡ true

-- a cell with this content
pub record HasCell (x : Targets) (code : Code) (l : Label) (c : Cell) (f : Field) : Type 0 where
  pub field : HasField x code l c f
  pub base : HasBase l c

-- the second cell is, of the same element, that field where the first is this one
abbrev pub IsSibling : Label → ℕ → ℕ → Cell → Cell → Type 0
IsSibling l field other (cells.Global g p) (cells.Global h q) = (g ≡ h) × (field + 2 ≤ p) × (q ≡ p - field + other)
IsSibling l field other (cells.GlobalAt g i) (cells.GlobalAt h j) =
    (g ≡ h) × ((first : ℕ) × (count : ℕ) × (elements : ℕ) × (e : Element)
    × (l.ints i ≡ OfGlobal first count elements e) × (field + 2 ≤ first)
    × (l.ints j ≡ OfGlobal (first - field + other) count elements e))
IsSibling l field other (cells.Object r i) (cells.Object q j) =
    SameReference l r q × (field ≤ i) × (j ≡ i - field + other)
IsSibling l field other (cells.ObjectAt r i) (cells.ObjectAt q j) =
    SameReference l r q × ((e : Element) × (l.ints i ≡ OfElement r field e) × (l.ints j ≡ OfElement q other e))
IsSibling l field other _ _ = ⊥

-- the cell is the one that the lock in the type of what register r refers to names
abbrev pub IsLockCell : Code → Label → ℕ → Lock → Cell → Type 0
IsLockCell code l r (Global j) (cells.Global g p) = (p ≡ j + 2) × IsInGlobal code g p
IsLockCell code l r (Through q j) (cells.Object a i) = (i ≡ j) × SameReference l a q
IsLockCell code l r (Self j) (cells.Object a i) = (i ≡ j) × SameReference l a r
IsLockCell code l r _ _ = ⊥

-- of a field of what the base of the cell refers to
abbrev pub no_lock : Lock
no_lock = Global 0

abbrev pub IsTypeLock : Code → Label → ℕ → Cell → Cell → Type 0
IsTypeLock code l k (cells.Object r i) m = (s : StaticType) × (l.env r ≡ Refers s) × (k < length s.locks)
    × IsLockCell code l r (slice_index_or s.locks k no_lock) m
IsTypeLock code l k (cells.ObjectAt r i) m = (s : StaticType) × (l.env r ≡ Refers s) × (k < length s.locks)
    × IsLockCell code l r (slice_index_or s.locks k no_lock) m
IsTypeLock code l k _ m = ⊥

-- the mutex of this cell's mode is in that cell
abbrev pub IsMutexOf : Code → Label → FieldLock → Cell → Cell → Type 0
IsMutexOf code l (OfType k) c m = IsTypeLock code l k c m
IsMutexOf code l (OfGlobals j) c m = IsLockCell code l 0 (Global j) m
IsMutexOf code l (OfSameElement field mutex) c m = IsSibling l field mutex c m

-- ---- accesses
-- the number of the cell in the object of its base, where it is known
abbrev pub IsPlace : Targets → Label → Cell → Option ℕ → ℕ → Type 0
IsPlace x l (cells.Global g p) b n = (b ≡ None) × (p ≡ n + 2)
IsPlace x l (cells.GlobalAt g i) b n = (b ≡ None) × ((first : ℕ) × (count : ℕ) × (elements : ℕ) × (e : ℕ)
    × (l.ints i ≡ OfGlobal first count elements (Nth e)) × (first + e * count ≡ n + 2))
IsPlace x l (cells.Object r i) b n = (i ≡ n) × ((v : ℕ) × (b ≡ Some v) × SameReference l r v)
IsPlace x l (cells.ObjectAt r i) b n =
    (v : ℕ) × (field : ℕ) × (e : ℕ) × (s : StaticType) × (b ≡ Some v) × SameReference l r v × (l.env r ≡ Refers s)
    × (l.ints i ≡ OfElement r field (Nth e)) × (n ≡ e * cells_of x s.target + field)

-- a write check is one of a read as well
abbrev pub Covers : Bool → Bool → Type 0
Covers true write = Unit {0}
Covers false write = write ≡ false

-- a check of the cell stands directly before, or one that has passed is remembered; the cell is then an integer's
pub data IsChecked (x : Targets) (l : Label) (write : Bool) (c : Cell) (holds : Content) : Type 0 where
  Directly : (was : Bool) → l.gate ≡ Checked was c → Covers was write → IsChecked x l write c holds
  Earlier : (p : Pass) → IsIn p l.passed → Covers p.write write → IsPlace x l c p.base p.cell → is_pointer holds ≡ false
      → IsChecked x l write c holds

-- a private cell of the globals is thread 0's
abbrev pub IsOwn : Labels → Label → Cell → Type 0
IsOwn ls l (cells.Global g p) = IsAlone ls l
IsOwn ls l (cells.GlobalAt g i) = IsAlone ls l
IsOwn ls l (cells.Object r i) = Unit {0}
IsOwn ls l (cells.ObjectAt r i) = Unit {0}

-- a readonly pointer to a mutex
pub record PointsToMutex (x : Targets) (f : Field) : Type 0 where
  pub to : FieldType
  pub holds : f.holds ≡ Pointer to
  pub mode : f.mode ≡ Readonly
  pub mutex : (field_at x to.target 0).holds ≡ MutexWord
  pub some : 0 < cells_of x to.target

-- the thread may read or write the cell
abbrev pub MayAccess : Targets → Code → Labels → Label → Bool → Cell → Content → FieldMode → Type 0
MayAccess x code ls l write c holds Private = IsOwn ls l c
MayAccess x code ls l write c holds Readonly = write ≡ false
MayAccess x code ls l write c holds Racy = Unit {0}
MayAccess x code ls l write c holds Dynamic = IsChecked x l write c holds
MayAccess x code ls l write c holds (Under lock) = (m : Cell) × (f : Field) × (l.gate ≡ Holds m) × HasCell x code l m f
    × (f.holds ≡ MutexWord) × IsMutexOf code l lock c m
MayAccess x code ls l write c holds (Behind field pointer) = (p : Cell) × (f : Field) × (l.gate ≡ HoldsLoaded p)
    × HasCell x code l p f × PointsToMutex x f × IsSibling l field pointer c p

-- the mode that the site gives the event is that of the cell
abbrev pub IsLockMode : Code → Label → ℕ → Lock → PlaceMode → Type 0
IsLockMode code l r (Global j) mode = (g : ℕ) × (mode ≡ modes.LockedGlobal g (j + 2)) × IsInGlobal code g (j + 2)
IsLockMode code l r (Through q j) mode = (a : ℕ) × (mode ≡ modes.LockedThrough a j) × SameReference l a q
IsLockMode code l r (Self j) mode = (a : ℕ) × (mode ≡ modes.LockedThrough a j) × SameReference l a r

abbrev pub IsTypeMode : Code → Label → ℕ → Cell → PlaceMode → Type 0
IsTypeMode code l k (cells.Object r i) mode =
    (s : StaticType) × (l.env r ≡ Refers s) × IsLockMode code l r (slice_index_or s.locks k no_lock) mode
IsTypeMode code l k (cells.ObjectAt r i) mode =
    (s : StaticType) × (l.env r ≡ Refers s) × IsLockMode code l r (slice_index_or s.locks k no_lock) mode
IsTypeMode code l k _ mode = ⊥

-- so many cells of the global come before a cell that is this field
abbrev pub HasBefore : Code → Label → ℕ → Cell → Type 0
HasBefore code l field (cells.Global g p) = 2 * (slice_index_or code.globals.items g no_global).granule + field ≤ p
HasBefore code l field (cells.GlobalAt g i) =
    (first : ℕ) × (count : ℕ) × (elements : ℕ) × (e : Element) × (l.ints i ≡ OfGlobal first count elements e)
    × (2 * (slice_index_or code.globals.items g no_global).granule + field ≤ first)
HasBefore code l field (cells.Object r i) = Unit {0}
HasBefore code l field (cells.ObjectAt r i) = Unit {0}

abbrev pub IsMode : Code → Label → Cell → FieldMode → PlaceMode → Type 0
IsMode code l c Private mode = mode ≡ modes.Private
IsMode code l c Readonly mode = mode ≡ modes.Readonly
IsMode code l c Racy mode = mode ≡ modes.Racy
IsMode code l c Dynamic mode = mode ≡ modes.Dynamic
IsMode code l c (Under (OfType k)) mode = IsTypeMode code l k c mode
IsMode code l c (Under (OfGlobals j)) mode = IsLockMode code l 0 (Global j) mode
IsMode code l c (Under (OfSameElement field mutex)) mode =
    (mode ≡ modes.LockedSibling field mutex) × HasBefore code l field c
IsMode code l c (Behind field pointer) mode = mode ≡ modes.LockedLoaded

-- nothing is had alone: between TestSole and Give or Free no access is made
abbrev pub IsNotSole : Gate → Type 0
IsNotSole (Sole r cleared) = ⊥
IsNotSole _ = Unit {0}

-- an access of data to a cell, of this field, at this site
pub record Accesses (x : Targets) (code : Code) (ls : Labels) (l : Label) (write : Bool) (c : Cell) (site : ℕ)
    (f : Field) : Type 0 where
  pub cell : HasCell x code l c f
  pub may : MayAccess x code ls l write c f.holds f.mode
  pub apart : IsNotSole l.gate
  pub mode : IsMode code l c f.mode (place_at code site).mode

-- ---- what cells refer to
abbrev pub IsFieldLock : Label → ℕ → ℕ → StaticType → Lock → FieldLock → Type 0
IsFieldLock l r i s (Global j) (OfGlobals k) = j ≡ k
IsFieldLock l r i s (Through q j) (OfSameElement field mutex) =
    (field ≤ i) × (j ≡ i - field + mutex) × SameReference l r q
IsFieldLock l r i s (Global j) (OfType k) =
    (k < length s.locks) × SameLock l r (Global j) (slice_index_or s.locks k no_lock)
IsFieldLock l r i s (Through q j) (OfType k) =
    (k < length s.locks) × SameLock l r (Through q j) (slice_index_or s.locks k no_lock)
IsFieldLock l r i s lock f = ⊥

-- in the globals a lock is one of theirs
abbrev pub IsGlobalLock : ℕ → Lock → FieldLock → Type 0
IsGlobalLock p (Global j) (OfGlobals k) = j ≡ k
IsGlobalLock p (Global j) (OfSameElement field mutex) = (field + 2 ≤ p) × (j + 2 ≡ p - field + mutex)
IsGlobalLock p lock _ = ⊥

-- in elements whose number is not known no lock is one of the same element
abbrev pub IsAnyLock : Label → ℕ → StaticType → Lock → FieldLock → Type 0
IsAnyLock l r s lock (OfSameElement field mutex) = ⊥
IsAnyLock l r s lock f = IsFieldLock l r 0 s lock f

abbrev pub IsAnyGlobalLock : Lock → FieldLock → Type 0
IsAnyGlobalLock lock (OfSameElement field mutex) = ⊥
IsAnyGlobalLock lock f = IsGlobalLock 0 lock f

abbrev pub AreFieldLocks : Label → Cell → List Lock → List FieldLock → Type 0
AreFieldLocks l (cells.Global g p) locks fields = AllSame (IsGlobalLock p) locks fields
AreFieldLocks l (cells.GlobalAt g i) locks fields = AllSame IsAnyGlobalLock locks fields
AreFieldLocks l (cells.Object r i) locks fields =
    (s : StaticType) × (l.env r ≡ Refers s) × AllSame (IsFieldLock l r i s) locks fields
AreFieldLocks l (cells.ObjectAt r i) locks fields =
    (s : StaticType) × (l.env r ≡ Refers s) × AllSame (IsAnyLock l r s) locks fields

-- the cell is a pointer, and what it refers to is of this type
pub record PointsTo (l : Label) (c : Cell) (f : Field) (s : StaticType) : Type 0 where
  pub to : FieldType
  pub holds : f.holds ≡ Pointer to
  pub target : s.target ≡ to.target
  pub locks : AreFieldLocks l c s.locks to.locks

-- ---- integers
abbrev pub Fits : Number → Width → Type 0
Fits n w = LessNumber n (Within w)

abbrev pub is_shift : Operator → Bool
is_shift ShiftLeft = true
is_shift ShiftRight = true
is_shift _ = false

abbrev pub is_comparison : Operator → Bool
is_comparison Equal = true
is_comparison NotEqual = true
is_comparison Less = true
is_comparison Greater = true
is_comparison AtMost = true
is_comparison AtLeast = true
is_comparison _ = false

-- a comparison takes integers of any width
pub record Operands (l : Label) (w : Width) (operator : Operator) (a b : ℕ) : Type 0 where
  pub left : is_comparison operator ≡ false → Fits (l.ints a) w
  pub right : is_shift operator ≡ false → is_comparison operator ≡ false → Fits (l.ints b) w

-- the element that an index is of: of a known number, or of the name that the index has, or of a new name
abbrev pub IsElement : Label → Number → Element → Type 0
IsElement l (Exactly z) (Nth n) = z ≡ pos n
IsElement l (Indexes m) (Named n) = n ≡ m
IsElement l n (Named name) = Fresh l name
IsElement l n _ = ⊥

-- ---- calls
-- a reference in register a, whose type is as the callee's parameter p says, whose frame begins at register k
abbrev pub PassesLock : Label → ℕ → ℕ → Lock → Lock → Type 0
PassesLock l k a (Global i) (Global j) = i ≡ j
PassesLock l k a (Through y i) (Through q j) = (i ≡ j) × SameReference l y (k + q)
PassesLock l k a (Self i) (Through q j) = (i ≡ j) × SameReference l a (k + q)
PassesLock l k a (Through y i) (Self j) = (i ≡ j) × SameReference l y a
PassesLock l k a (Self i) (Self j) = i ≡ j
PassesLock l k a _ _ = ⊥

abbrev pub Passes : Label → ℕ → ℕ → Entry → Entry → Type 0
Passes l k a given Empty = given ≡ Empty
Passes l k a Empty (Refers t) = Unit {0}
Passes l k a (Refers s) (Refers t) = (s.target ≡ t.target) × AllSame (PassesLock l k a) s.locks t.locks
Passes l k a Unknown (Refers t) = ⊥
Passes l k a given Unknown = Unit {0}

-- what is known at a function's entry
abbrev pub entry_label : Labels → ℕ → Label
entry_label ls f = record {
  function = Some f;
  env = (ls.signature f).takes;
  same = λ r. r;
  known = λ r. false;
  ints = (ls.signature f).takes_ints;
  gate = Closed;
  passed = [];
  room = false;
}

-- behind a call whose frame began at these registers
abbrev pub below : {A : Type 0} → ℕ → (ℕ → A) → A → A → ℕ → A
below k f at above r = if nat_lt r k then f r else (if r == k then at else above)

abbrev pub below_copy : ℕ → (ℕ → ℕ) → ℕ → ℕ
below_copy k same r = if nat_lt r k && nat_lt (same r) k then same r else r

abbrev pub below_number : ℕ → Number → Number
below_number k (OfElement b field e) = if nat_lt b k then OfElement b field e else Anything
below_number k n = n

abbrev pub below_pass : ℕ → Option ℕ → Bool
below_pass k None = true
below_pass k (Some b) = nat_lt b k

abbrev pub called_label : Labels → Label → ℕ → ℕ → ℕ → Label
called_label ls l f ints refs = record {
  function = l.function;
  env = below refs l.env (ls.signature f).result Empty;
  same = below_copy refs l.same;
  known = below refs l.known false false;
  ints = λ i. below_number refs (below ints l.ints (ls.signature f).result_int Anything i);
  gate = Closed;
  passed = filter (λ p. below_pass refs p.base) l.passed;
  room = false;
}

pub record Calls (code : Code) (ls : Labels) (l : Label) (pc ints refs f : ℕ) : Type 0 where
  pub is : f < length code.functions.items
  pub entry : (function_of code f).entry ≡ pc
  pub caller : (g : ℕ) × (l.function ≡ Some g) × ((ls.signature f).alone ≡ true → (ls.signature g).alone ≡ true)
  pub from : refs ≤ refs_in code l.function
  pub from_int : ints ≤ ints_in code l.function
  pub passes : (p : ℕ) → Passes l refs (refs + p) (l.env (refs + p)) ((ls.signature f).takes p)
  pub numbers : (i : ℕ) → LessNumber (l.ints (ints + i)) ((ls.signature f).takes_ints i)
  pub stays : (r q : ℕ) → r < refs → EntryMentions (l.env r) q → q < refs

-- a return: the first register of each bank holds the result, and no other one a reference
pub record Returns (ls : Labels) (l : Label) (f : ℕ) : Type 0 where
  pub result : LessEntry l 0 (l.env 0) (ls.signature f).result
  pub result_int : LessNumber (l.ints 0) (ls.signature f).result_int
  pub empty : (r : ℕ) → r ≢ 0 → l.env r ≡ Empty

-- ---- threads
-- what a thread hands to another is not private
abbrev pub IsShared : Targets → Entry → Type 0
IsShared x Empty = Unit {0}
IsShared x (Refers s) = is_private x record { target = s.target; locks = [] } ≡ false
IsShared x Unknown = ⊥

abbrev pub Hands : Targets → Code → Labels → Label → ℕ → Register → Type 0
Hands x code ls l f (registers.Int i) = ((function_of code f).parameter ≡ parameters.Int)
    × LessNumber (l.ints i) ((ls.signature f).takes_ints 0) × ((w : Width) × Fits (l.ints i) w)
Hands x code ls l f (registers.Reference r) =
    ((function_of code f).parameter ≡ parameters.Reference) × IsRef code l r × IsFree l r
    × ((q : ℕ) → EntryMentions ((ls.signature f).takes 0) q → ⊥) × Passes l r r (l.env r) ((ls.signature f).takes 0)
    × IsShared x ((ls.signature f).takes 0)

abbrev pub handed_label : Label → Register → Label
handed_label l (registers.Int i) = l
handed_label l (registers.Reference r) = empty l r

-- ---- objects
-- the layout is that of the elements of this target
pub record IsLayout (x : Targets) (code : Code) (layout target : ℕ) : Type 0 where
  pub cells : (layout_at code layout).cells ≡ cells_of x target
  pub in_order : (layout_at code layout).from ≤ (layout_at code layout).until
  pub few : (layout_at code layout).until < 2 ^ 32
  pub all : (field : ℕ) → is_pointer (field_at x target field).holds ≡ true
      → (i : ℕ) × ((layout_at code layout).from ≤ i) × (i < (layout_at code layout).until)
      × (slice_index code.pointers.items i ≡ field)
  pub only : (i : ℕ) → (layout_at code layout).from ≤ i → i < (layout_at code layout).until
      → is_pointer (field_at x target (slice_index code.pointers.items i)).holds ≡ true

-- a cell of an object of the target is a pointer where it is one of an object that is made at the token of this site
abbrev pub MakesPointers : Targets → Code → ℕ → ℕ → Type 0
MakesPointers x code site target = (i : ℕ)
    → is_pointer (field_of_cell x target i).holds ≡ x.is_made_pointer (place_at code site).site.token i

-- a type's lock within a type's cells
abbrev pub IsSameFieldLock : Label → ℕ → StaticType → StaticType → FieldLock → FieldLock → Type 0
IsSameFieldLock l r s t (OfGlobals j) (OfGlobals k) = j ≡ k
IsSameFieldLock l r s t (OfSameElement f m) (OfSameElement g n) = (f ≡ g) × (m ≡ n)
IsSameFieldLock l r s t (OfType j) (OfType k) = (j < length s.locks) × (k < length t.locks)
    × SameLock l r (slice_index_or s.locks j no_lock) (slice_index_or t.locks k no_lock)
IsSameFieldLock l r s t _ _ = ⊥

abbrev pub IsSameContent : Label → ℕ → StaticType → StaticType → Content → Content → Type 0
IsSameContent l r s t (Pointer f) (Pointer g) =
    (f.target ≡ g.target) × AllSame (IsSameFieldLock l r s t) f.locks g.locks
IsSameContent l r s t a b = a ≡ b

-- a cast from one type to another leaves what the cells are and refer to
pub record Recasts (x : Targets) (l : Label) (r : ℕ) (s t : StaticType) : Type 0 where
  pub some : t.target ≢ 0
  pub is_row : t.target < length x.rows
  pub cells : cells_of x s.target ≡ cells_of x t.target
  pub same : (field : ℕ) → field < cells_of x s.target
      → IsSameContent l r s t (field_at x s.target field).holds (field_at x t.target field).holds

-- no check is remembered of its object, whose granules are to be cleared
abbrev pub IsUnpassed : Label → ℕ → Type 0
IsUnpassed l r = (p : Pass) → IsIn p l.passed → p.base ≡ Some r → ⊥

-- ---- one instruction
-- a register of references that holds NULL
pub record IsVacant (code : Code) (l : Label) (r : ℕ) : Type 0 where
  pub is : IsRef code l r
  pub empty : l.env r ≡ Empty

-- an integer register becomes this
abbrev pub Numbers : Code → Labels → Label → ℕ → ℕ → Number → Type 0
Numbers code ls l pc r n = (l.gate ≡ Closed) × IsInt code l r × Leads ls (pc + 1) (set_number l r n)

-- goes on with nothing changed
abbrev pub Passes_on : Labels → Label → ℕ → Type 0
Passes_on ls l pc = (l.gate ≡ Closed) × Leads ls (pc + 1) l

-- the copy that a register filled from another one is
abbrev pub moved_copy : Label → ℕ → ℕ → ℕ
moved_copy l r from = if l.same from == from then r else l.same from

-- behind a check, which may be remembered
abbrev pub LeadsChecked : Targets → Labels → Label → ℕ → Bool → Cell → Type 0
LeadsChecked x ls l pc write c =
    Leads ls (pc + 1) (gated l (Checked write c))
    ⊎ ((p : Pass) × (p.write ≡ write) × IsPlace x l c p.base p.cell
    × Leads ls (pc + 1) (record l { gate = Checked write c; passed = p ∷ l.passed }))

-- the mutex in a cell
abbrev pub IsMutex : Field → Type 0
IsMutex f = f.holds ≡ MutexWord

abbrev pub knows_base : Label → Cell → Label
knows_base l (cells.Object r i) = knows l r
knows_base l (cells.ObjectAt r i) = knows l r
knows_base l _ = l

-- a reference of the base goes to the log
abbrev pub IsBaseFree : Label → Cell → Type 0
IsBaseFree l (cells.Object r i) = IsFree l r
IsBaseFree l (cells.ObjectAt r i) = IsFree l r
IsBaseFree l _ = Unit {0}

abbrev pub without_base_of : Label → Cell → Label
without_base_of l (cells.Object r i) = empty l r
without_base_of l (cells.ObjectAt r i) = empty l r
without_base_of l _ = record l { gate = Closed }

-- and comes back from it
abbrev pub unlocked_label : Label → ℕ → Cell → Label
unlocked_label l r (cells.Object b i) = record (fill l r (l.env b) (l.same b) true) { room = true }
unlocked_label l r (cells.ObjectAt b i) = record (fill l r (l.env b) (l.same b) true) { room = true }
unlocked_label l r _ = record l { gate = Closed; room = true }

abbrev pub Fine : Targets → Code → Labels → ℕ → Label → Instr → Type 0
Fine x code ls pc l (Constant r v) = Numbers code ls l pc r (Exactly v)
Fine x code ls pc l (Move r from) = Numbers code ls l pc r (l.ints from)
    ⊎ ((name : ℕ) × Fresh l name × IsInt code l from
    × Numbers code ls (record l { ints = put l.ints from (Indexes name) }) pc r (Indexes name))
Fine x code ls pc l (MoveReference r from) = (l.gate ≡ Closed) × (((r ≡ from) × Leads ls (pc + 1) l)
    ⊎ (IsVacant code l r × IsRef code l from × (r ≢ from) × IsFree l from × (EntryMentions (l.env from) from → ⊥)
    × Leads ls (pc + 1) (fill (empty l from) r (l.env from) (moved_copy l r from) (l.known from))))
Fine x code ls pc l (Null r) = (l.gate ≡ Closed) × IsVacant code l r × Leads ls (pc + 1) l
Fine x code ls pc l (ComputeInt operator r a b site) = Operands l Int operator a b × Numbers code ls l pc r (Within Int)
Fine x code ls pc l (ComputeLong operator r a b site) =
    Operands l Long operator a b × Numbers code ls l pc r (Within Long)
Fine x code ls pc l (NegateInt r a site) = Numbers code ls l pc r (Within Int)
Fine x code ls pc l (NegateLong r a site) = Numbers code ls l pc r (Within Long)
Fine x code ls pc l (Complement r a) = (w : Width) × Fits (l.ints a) w × Numbers code ls l pc r (Within w)
Fine x code ls pc l (Not r a) = Numbers code ls l pc r (Within Char)
Fine x code ls pc l (CompareReferences r a b) = Numbers code ls l pc r (Within Char)
Fine x code ls pc l (ChkWidth width r site) = Passes_on ls l pc ⊎ Numbers code ls l pc r (Within width)
Fine x code ls pc l (Jump to) = (l.gate ≡ Closed) × Leads ls to l
Fine x code ls pc l (JumpIfZero r to) = (l.gate ≡ Closed) × Leads ls to l × Leads ls (pc + 1) l
Fine x code ls pc l (JumpIfNull r to) =
    (l.gate ≡ Closed) × (Leads ls to l ⊎ (IsFree l r × Leads ls to (empty l r))) × Leads ls (pc + 1) (knows l r)
Fine x code ls pc l (Call to ints refs site) =
    (l.gate ≡ Closed) × ((f : ℕ) × Calls code ls l to ints refs f × Leads ls (pc + 1) (called_label ls l f ints refs))
Fine x code ls pc l (Return site) = (l.gate ≡ Closed) × ((f : ℕ) × (l.function ≡ Some f) × Returns ls l f)
Fine x code ls pc l (ChkNull r site) = (l.gate ≡ Closed) × Leads ls (pc + 1) (knows l r)
Fine x code ls pc l (ChkHeld c site) =
    (l.gate ≡ Closed) × ((f : Field) × HasCell x code l c f × IsMutex f) × Leads ls (pc + 1) (gated l (Holds c))
Fine x code ls pc l (ChkNotHeld c site) =
    (l.gate ≡ Closed) × ((f : Field) × HasCell x code l c f × IsMutex f) × Leads ls (pc + 1) l
Fine x code ls pc l (ChkPositive r site) = Passes_on ls l pc
Fine x code ls pc l (ChkRoom site) = (l.gate ≡ Closed) × Leads ls (pc + 1) (record l { room = true })
Fine x code ls pc l (ChkLock c site) = (l.gate ≡ Closed) × ((f : Field) × HasField x code l c f × IsMutex f)
    × Leads ls (pc + 1) (gated (knows_base l c) (Holds c))
Fine x code ls pc l (ChkLockLoaded site) = (c : Cell) × (f : Field) × (l.gate ≡ Loaded c) × HasCell x code l c f
    × PointsToMutex x f × Leads ls (pc + 1) (gated l (HoldsLoaded c))
Fine x code ls pc l (Bounds r base count field site) =
    (l.gate ≡ Closed) × IsInt code l r × IsRef code l base × (l.known base ≡ true)
    × ((s : StaticType) × (l.env base ≡ Refers s) × (count ≡ cells_of x s.target) × (field < count))
    × ((e : Element) × IsElement l (l.ints r) e × Leads ls (pc + 1) (set_number l r (OfElement base field e)))
Fine x code ls pc l (GlobalBounds r elements count field site) =
    (l.gate ≡ Closed) × IsInt code l r × (elements * count + field < 2 ^ 63)
    × ((e : Element) × IsElement l (l.ints r) e × Leads ls (pc + 1) (set_number l r (OfGlobal field count elements e)))
Fine x code ls pc l (ChkRead c site) =
    (l.gate ≡ Closed) × ((f : Field) × HasCell x code l c f × (f.mode ≡ Dynamic)) × LeadsChecked x ls l pc false c
Fine x code ls pc l (ChkWrite c site) =
    (l.gate ≡ Closed) × ((f : Field) × HasCell x code l c f × (f.mode ≡ Dynamic)) × LeadsChecked x ls l pc true c
Fine x code ls pc l (Load r c site) = IsInt code l r × ((f : Field) × (w : Width) × Accesses x code ls l false c site f
    × (f.holds ≡ Integer w) × Leads ls (pc + 1) (set_number l r (Within w)))
Fine x code ls pc l (Store r c site) = (f : Field) × (w : Width) × Accesses x code ls l true c site f
    × (f.holds ≡ Integer w) × Fits (l.ints r) w × Leads ls (pc + 1) (gated l Closed)
Fine x code ls pc l (LoadRef c site) = (f : Field) × (to : FieldType) × Accesses x code ls l false c site f
    × (f.holds ≡ Pointer to) × Leads ls (pc + 1) (gated l (Loaded c))
Fine x code ls pc l (Exchange r c site) = IsRef code l r × ((f : Field) × (s : StaticType)
    × Accesses x code ls l true c site f × PointsTo l c f s × LessEntry l r (l.env r) (Refers s)
    × IsFree l r × (Mentions s r → ⊥) × Leads ls (pc + 1) (fill (empty l r) r (Refers s) r false))
Fine x code ls pc l (Raise r from) = (l.gate ≡ Closed) × IsVacant code l r × IsRef code l from
    × Leads ls (pc + 1) (fill l r (l.env from) (l.same from) (l.known from))
Fine x code ls pc l (RaiseLoaded r) =
    IsVacant code l r × ((c : Cell) × (f : Field) × (s : StaticType) × (l.gate ≡ Loaded c) × HasCell x code l c f
    × PointsTo l c f s × (Mentions s r → ⊥) × Leads ls (pc + 1) (fill l r (Refers s) r false))
Fine x code ls pc l (Lower r) = (l.gate ≡ Closed) × IsRef code l r
    × ((IsFree l r × Leads ls (pc + 1) (empty l r)) ⊎ Leads ls (pc + 1) (empty (forgets l r) r))
Fine x code ls pc l (New r count cells site) = (l.gate ≡ Closed) × IsVacant code l r
    × ((s : StaticType) × (s.target ≢ 0) × (s.target < length x.rows) × (cells ≡ cells_of x s.target) × (1 ≤ cells)
    × MakesPointers x code site s.target × (Mentions s r → ⊥) × Leads ls (pc + 1) (fill l r (Refers s) r true))
Fine x code ls pc l (TakeCell r c site) =
    IsVacant code l r × ((f : Field) × (s : StaticType) × Accesses x code ls l true c site f × PointsTo l c f s
    × (Mentions s r → ⊥) × Leads ls (pc + 1) (fill l r (Refers s) r false))
Fine x code ls pc l (TakeLocal r from site) = (l.gate ≡ Closed) × IsVacant code l r × IsRef code l from × (r ≢ from)
    × IsFree l from × (EntryMentions (l.env from) from → ⊥)
    × Leads ls (pc + 1) (fill (empty l from) r (l.env from) (moved_copy l r from) (l.known from))
Fine x code ls pc l (TestSole r site) = (l.gate ≡ Closed) × IsRef code l r × (l.known r ≡ true)
    × Leads ls (pc + 1) (record l { gate = Sole r false; passed = without_base r l.passed })
Fine x code ls pc l (Clear r cells) = (l.gate ≡ Sole r false) × IsUnpassed l r × ((s : StaticType)
    × (l.env r ≡ Refers s) × (cells ≡ cells_of x s.target) × Leads ls (pc + 1) (gated l (Sole r true)))
Fine x code ls pc l (Give r site) = (l.gate ≡ Sole r true) × IsFree l r
    × ((s : StaticType) × (t : StaticType) × (l.env r ≡ Refers s) × Recasts x l r s t × (Mentions t r → ⊥)
    × Leads ls (pc + 1) (fill (empty l r) r (Refers t) r true))
Fine x code ls pc l (Free r layout site) = ((cleared : Bool) × (l.gate ≡ Sole r cleared)) × IsFree l r × IsUnpassed l r
    × ((s : StaticType) × (l.env r ≡ Refers s) × IsLayout x code layout s.target) × Leads ls (pc + 1) (empty l r)
Fine x code ls pc l (LockCell c site) =
    (l.gate ≡ Closed) × (l.room ≡ true) × ((f : Field) × HasCell x code l c f × IsMutex f) × IsBaseFree l c
    × Leads ls (pc + 1) (record (without_base_of l c) { room = false })
Fine x code ls pc l (Unlock r c site) = (l.gate ≡ Holds c) × IsVacant code l r
    × ((f : Field) × HasCell x code l c f × IsMutex f) × Leads ls (pc + 1) (unlocked_label l r c)
Fine x code ls pc l (Spawn r f from site) = (l.gate ≡ Closed) × IsInt code l r × (f < length code.functions.items)
    × (ls.starts f ≡ true) × ((ls.signature f).alone ≡ false) × Hands x code ls l f from
    × Leads ls (pc + 1) (set_number (handed_label l from) r (Within Char))
Fine x code ls pc l (Join r site) = Passes_on ls l pc
Fine x code ls pc l (Print r site) = Passes_on ls l pc
Fine x code ls pc l (Start site) = (l.gate ≡ Closed) × (l.function ≡ None) × Leads ls (pc + 1) l
Fine x code ls pc l Exit = (l.gate ≡ Closed) × (l.function ≡ None) × (l.passed ≡ [])
Fine x code ls pc l (CondEnter c site) = ((l.gate ≡ Closed) ⊎ ((m : Cell) × (l.gate ≡ Holds m)))
    × ((f : Field) × HasCell x code l c f × (f.holds ≡ Waiters)) × Leads ls (pc + 1) l
Fine x code ls pc l (CondWait c site) =
    (l.gate ≡ Closed) × ((f : Field) × HasCell x code l c f × (f.holds ≡ Waiters)) × Leads ls (pc + 1) l
Fine x code ls pc l (CondSignal c site) =
    (l.gate ≡ Closed) × ((f : Field) × HasCell x code l c f × (f.holds ≡ Waiters)) × Leads ls (pc + 1) l
Fine x code ls pc l (CondBroadcast c site) =
    (l.gate ≡ Closed) × ((f : Field) × HasCell x code l c f × (f.holds ≡ Waiters)) × Leads ls (pc + 1) l

-- ---- a code
-- a function with which a thread may begin gives nothing back, and takes at most one argument, whose type names no
-- other
pub record MayStart (code : Code) (ls : Labels) (f : ℕ) : Type 0 where
  pub is : f < length code.functions.items
  pub result : (ls.signature f).result ≡ Empty
  pub others : (p : ℕ) → p ≢ 0 → (ls.signature f).takes p ≡ Empty
  pub reference : (function_of code f).parameter ≢ parameters.Reference → (ls.signature f).takes 0 ≡ Empty
  pub closed : (q : ℕ) → EntryMentions ((ls.signature f).takes 0) q → ⊥
  pub number : (function_of code f).parameter ≢ parameters.Int → (ls.signature f).takes_ints 0 ≡ Anything
  pub numbers : (i : ℕ) → i ≢ 0 → (ls.signature f).takes_ints i ≡ Anything
  pub frame : (function_of code f).parameter ≡ parameters.Reference → 0 < (function_of code f).refs
  pub frame_int : (function_of code f).parameter ≡ parameters.Int → 0 < (function_of code f).ints

abbrev pub Initial : Content → ℕ → Type 0
Initial (Integer w) v = holds w (int_of v) ≡ true
Initial _ v = v ≡ 0

-- the globals lie apart, from granule 1 on, and have fields and first values
pub record AreGlobals (x : Targets) (code : Code) : Type 0 where
  pub fields : length x.globals ≡ 2 * code.granules
  pub few : code.granules ≤ 65536
  pub low : (g : ℕ) → g < length code.globals.items → 1 ≤ (slice_index_or code.globals.items g no_global).granule
  pub high : (g : ℕ) → g < length code.globals.items
      → 2 * (slice_index_or code.globals.items g no_global).granule
      + (slice_index_or code.globals.items g no_global).cells ≤ 2 * code.granules + 2
  pub apart : (g h : ℕ) → g < h → h < length code.globals.items
      → 2 * (slice_index_or code.globals.items g no_global).granule
      + (slice_index_or code.globals.items g no_global).cells
      ≤ 2 * (slice_index_or code.globals.items h no_global).granule
  pub words : (j : ℕ) → slice_index code.initial.items j < 2 ^ 64
  pub initial : (j : ℕ) → Initial (global_field x j).holds (slice_index code.initial.items j)

-- the numbers that a function takes, and what it gives back, name no register and no index of the frame that they come
-- from
pub record IsPlain (f : Signature) : Type 0 where
  pub bases : (i b : ℕ) → NumberHasBase (f.takes_ints i) b → ⊥
  pub names : (i name : ℕ) → HasName (f.takes_ints i) name → ⊥
  pub result : (q : ℕ) → EntryMentions f.result q → ⊥
  pub result_base : (b : ℕ) → NumberHasBase f.result_int b → ⊥
  pub result_name : (name : ℕ) → HasName f.result_int name → ⊥

pub record IsWellTyped (x : Targets) (code : Code) (ls : Labels) : Type 0 where
  pub targets : AreTargets x
  pub globals : AreGlobals x code
  pub fine : (pc : ℕ) → Fine x code ls pc (ls.at pc) (instr_at code pc)
  pub scoped : (pc : ℕ) → IsScoped (ints_in code (ls.at pc).function) (refs_in code (ls.at pc).function) (ls.at pc)
  pub entries : (f : ℕ) → f < length code.functions.items → Leads ls (function_of code f).entry (entry_label ls f)
  pub plain : (f : ℕ) → IsPlain (ls.signature f)
  pub starts : (f : ℕ) → ls.starts f ≡ true → MayStart code ls f
  pub main : ls.starts code.main ≡ true
  pub main_is : code.main < 2 ^ 64
  -- nobody hands it a number
  pub main_number : (ls.signature code.main).takes_ints 0 ≡ Anything
  pub begin : (site : ℕ) × (instr_at code 0 ≡ Start site)
  -- no frame stands at the beginning and at the end of a thread alone
  pub placed : (pc : ℕ) → (ls.at pc).function ≡ None → (pc ≡ 0) ⊎ (instr_at code pc ≡ Exit)
  pub first : ((ls.at 0).function ≡ None) × ((ls.at 0).gate ≡ Closed) × ((ls.at 0).passed ≡ [])
  pub second : instr_at code 1 ≡ Exit
