-- The world of the proof: what refers to which object, the counts, the objects with their types and owners, granules,
-- mutexes, and by thread what it is in the middle of; the invariant over it, and what each effect of a turn makes of
-- it.
use Rattle.std.specs.Prelude.{ℕ, suc, ◌+◌, ◌-◌, ◌≡◌, ◌<◌, ◌≢◌, Bool, true, false, ◌&&◌, nat_eq, if◌then◌else◌}
use Rattle.sharc_code.specs.Runs.{put}
use Rattle.sharc_invariant.specs.Granules.{GranuleState, Bits, one, sum_to, Passed}
use Rattle.sharc_invariant.specs.Types.{ObjectType, nothing, CellMode}
use Rattle.sharc_invariant.specs.Types.CellMode.{Private, Readonly, Racy, Dynamic, Locked, Sibling, Behind}

-- what a table of targets says of a type: whether an object of it is private, the modes of its cells, and what they
-- refer to
pub record TypeRules : Type 0 where
  pub private : ObjectType → Bool
  pub mode : ObjectType → ℕ → CellMode
  pub cell : (ty : ObjectType) (o i : ℕ) → ObjectType
  pub granule : ℕ → ℕ

pub record Laws (l : TypeRules) : Type 0 where
  pub whole : (ty : ObjectType) (i : ℕ) → l.mode ty i ≡ Private → l.private ty ≡ true
  pub private_cells : (ty : ObjectType) (o i : ℕ) → l.private (l.cell ty o i) ≡ true → l.mode ty i ≡ Private
  pub behind : (ty : ObjectType) (i j : ℕ) → l.mode ty i ≡ Behind j → l.mode ty j ≡ Readonly

pub record TypedReference : Type 0 where
  pub ty : ObjectType
  pub reference : ℕ

-- what holds references outside of objects
pub data Holder : Type 0 where
  RegisterOf : (t r : ℕ) → Holder
  ArgumentOf : (t : ℕ) → Holder
  LogOf : (t i : ℕ) → Holder
  -- what a Free found in a pointer cell and has not lowered yet
  Staged : (t : ℕ) → Holder

pub data Slot : Type 0 where
  In : (a : Holder) → Slot
  Cell : (o i : ℕ) → Slot

pub record ObjectState : Type 0 where
  pub live : Bool
  pub global : Bool
  pub ty : ObjectType
  pub owner : ℕ

pub data Base : Type 0 where
  By : (r : ℕ) → Base
  Global : (g : ℕ) → Base

pub data Window : Type 0 where
  Shut : Window
  May : (k : Bool) (b : Base) (i : ℕ) → Window
  Loaded : (b : Base) (i v : ℕ) → Window
  Sole : (r : ℕ) → Window

pub record World : Type 0 where
  pub slots : Slot → TypedReference
  pub count : ℕ → ℕ
  pub obj : ℕ → ObjectState
  pub gran : ℕ → ℕ → GranuleState
  pub mutex : ℕ → ℕ → ℕ
  pub win : ℕ → Window

abbrev pub put2 : {A : Type 0} → (ℕ → ℕ → A) → ℕ → ℕ → A → ℕ → ℕ → A
put2 f o i v = put f o (put (f o) i v)

abbrev pub same_own : Holder → Holder → Bool
same_own (RegisterOf t r) (RegisterOf u q) = nat_eq t u && nat_eq r q
same_own (ArgumentOf t) (ArgumentOf u) = nat_eq t u
same_own (LogOf t i) (LogOf u j) = nat_eq t u && nat_eq i j
same_own (Staged t) (Staged u) = nat_eq t u
same_own _ _ = false

abbrev pub same_slot : Slot → Slot → Bool
same_slot (In a) (In b) = same_own a b
same_slot (In a) (Cell o i) = false
same_slot (Cell o i) (In a) = false
same_slot (Cell o i) (Cell p j) = nat_eq o p && nat_eq i j

abbrev pub place : (Slot → TypedReference) → Slot → TypedReference → Slot → TypedReference
place f s v q = if same_slot q s then v else f q

abbrev pub none : TypedReference
none = record { ty = nothing; reference = 0 }

abbrev pub null : ObjectType → TypedReference
null ty = record { ty = ty; reference = 0 }

abbrev pub thread_of : Holder → ℕ
thread_of (RegisterOf t r) = t
thread_of (ArgumentOf t) = t
thread_of (LogOf t i) = t
thread_of (Staged t) = t

abbrev pub in_ref : World → Holder → ℕ
in_ref w a = (w.slots (In a)).reference

pub record Size : Type 0 where
  pub threads : ℕ
  pub regs : ℕ
  pub log : ℕ
  pub objects : ℕ
  pub cells : ℕ

unfoldable pub total : Size → (Slot → TypedReference) → ℕ → ℕ
total z f o =
    sum_to z.threads (λ t. sum_to z.regs (λ r. one (f (In (RegisterOf t r))).reference o))
    + (sum_to z.threads (λ t. one (f (In (ArgumentOf t))).reference o)
    + (sum_to z.threads (λ t. sum_to z.log (λ i. one (f (In (LogOf t i))).reference o))
    + (sum_to z.threads (λ t. one (f (In (Staged t))).reference o)
    + sum_to z.objects (λ p. sum_to z.cells (λ i. one (f (Cell p i)).reference o)))))

abbrev pub Inside : Size → Slot → Type 0
Inside z (In (RegisterOf t r)) = (t < z.threads) × (r < z.regs)
Inside z (In (ArgumentOf t)) = t < z.threads
Inside z (In (LogOf t i)) = (t < z.threads) × (i < z.log)
Inside z (In (Staged t)) = t < z.threads
Inside z (Cell o i) = (o < z.objects) × (i < z.cells)

abbrev pub base_of : World → ℕ → Base → ℕ
base_of w t (By r) = (w.slots (In (RegisterOf t r))).reference
base_of w t (Global g) = g

abbrev pub Based : World → ℕ → Base → Type 0
Based w t (By r) = (w.slots (In (RegisterOf t r))).reference ≢ 0
Based w t (Global g) = ((w.obj g).live ≡ true) × ((w.obj g).global ≡ true)

-- may a thread read or write a cell of this mode
abbrev pub CanBy : TypeRules → World → ℕ → Bool → ℕ → ℕ → CellMode → Type 0
CanBy l w t k o i Private = (w.obj o).owner ≡ t
CanBy l w t k o i Readonly = k ≡ false
CanBy l w t k o i Racy = Unit {0}
CanBy l w t k o i Dynamic = Passed (w.gran o (l.granule i)) t k
CanBy l w t k o i (Locked p j) = w.mutex p j ≡ suc t
CanBy l w t k o i (Sibling j) = w.mutex o j ≡ suc t
CanBy l w t k o i (Behind j) = w.mutex (w.slots (Cell o j)).reference 0 ≡ suc t

abbrev pub Can : TypeRules → World → ℕ → Bool → ℕ → ℕ → Type 0
Can l w t k o i = CanBy l w t k o i (l.mode (w.obj o).ty i)

pub record Right (l : TypeRules) (w : World) (t : ℕ) (k : Bool) (b : Base) (i : ℕ) : Type 0 where
  pub based : Based w t b
  pub can : Can l w t k (base_of w t b) i

abbrev pub WinOk : TypeRules → World → ℕ → Window → Type 0
WinOk l w t Shut = Unit {0}
WinOk l w t (May k b i) = Right l w t k b i
WinOk l w t (Loaded b i v) = Right l w t false b i × ((w.slots (Cell (base_of w t b) i)).reference ≡ v)
WinOk l w t (Sole r) = (in_ref w (RegisterOf t r) ≢ 0) × (w.count (in_ref w (RegisterOf t r)) ≡ 1)

abbrev pub Uses : Window → Base → Type 0
Uses Shut b = ⊥
Uses (May k c i) b = c ≡ b
Uses (Loaded c i v) b = c ≡ b
Uses (Sole r) b = By r ≡ b

abbrev pub Opens : Window → Base → Type 0
Opens Shut b = ⊥
Opens (May k c i) b = c ≡ b
Opens (Loaded c i v) b = c ≡ b
Opens (Sole r) b = ⊥

-- no window stands on this
abbrev pub Free : World → Holder → Type 0
Free w a = (u r : ℕ) → Uses (w.win u) (By r) → a ≡ RegisterOf u r → ⊥

pub record Refers (l : TypeRules) (obj : ℕ → ObjectState) (who : ℕ) (ty : ObjectType) (o : ℕ) : Type 0 where
  pub live : (obj o).live ≡ true
  pub made : (obj o).global ≡ false
  pub typed : (obj o).ty ≡ ty
  pub own : l.private ty ≡ true → (obj o).owner ≡ who

abbrev pub who : (ℕ → ObjectState) → Slot → ℕ
who obj (In a) = thread_of a
who obj (Cell o i) = (obj o).owner

abbrev pub Fits : TypeRules → (ℕ → ObjectState) → ℕ → TypedReference → Type 0
Fits l obj u h = h.reference ≢ 0 → Refers l obj u h.ty h.reference

-- the invariant, but for the windows
pub record Words (z : Size) (l : TypeRules) (slots : Slot → TypedReference) (count : ℕ → ℕ)
    (obj : ℕ → ObjectState) : Type 0 where
  pub counts : (o : ℕ) → o ≢ 0 → (obj o).live ≡ true → (obj o).global ≡ false → count o ≡ total z slots o
  pub inside : (s : Slot) → (slots s).reference ≢ 0 → Inside z s
  pub fits : (s : Slot) → Fits l obj (who obj s) (slots s)
  pub cells : (o i : ℕ) → (obj o).live ≡ true → (slots (Cell o i)).ty ≡ l.cell (obj o).ty o i
  pub dead : (o i : ℕ) → (obj o).live ≡ false → (slots (Cell o i)).reference ≡ 0
  pub kinds : (o : ℕ) → (obj o).live ≡ true → (obj o).ty ≢ nothing

pub record WorldInvariant (z : Size) (l : TypeRules) (w : World) : Type 0 where
  pub words : Words z l w.slots w.count w.obj
  pub bits : (o g : ℕ) → Bits z.threads (w.gran o g)
  pub wins : (t : ℕ) → WinOk l w t (w.win t)

-- the turns

abbrev pub set_slot : World → Holder → TypedReference → World
set_slot w a h = record w { slots = place w.slots (In a) h }

-- a reference more: Raise of a register, or of a cell that was loaded
abbrev pub grow : World → Holder → TypedReference → World
grow w a h = record w {
  slots = place w.slots (In a) h;
  count = put w.count h.reference (w.count h.reference + 1);
}

-- Lower
abbrev pub drop : World → Holder → World
drop w a = record w {
  slots = place w.slots (In a) none;
  count = put w.count (in_ref w a) (w.count (in_ref w a) - 1);
}

-- a move, also to the log of a lock, to the argument of a thread, and back
abbrev pub shift : World → Holder → Holder → World
shift w a b = record w { slots = place (place w.slots (In a) none) (In b) (w.slots (In a)) }

abbrev pub set_win : World → ℕ → Window → World
set_win w t x = record w { win = put w.win t x }

-- a cell and a register change what they hold
abbrev pub swap : World → ℕ → ℕ → Holder → World
swap w o i a = record w { slots = place (place w.slots (In a) (w.slots (Cell o i))) (Cell o i) (w.slots (In a)) }

abbrev pub set_gran : World → ℕ → ℕ → GranuleState → World
set_gran w o g x = record w { gran = put2 w.gran o g x }

abbrev pub set_mutex : World → ℕ → ℕ → ℕ → World
set_mutex w o j v = record w { mutex = put2 w.mutex o j v }

abbrev pub give : World → ℕ → ℕ → ObjectType → World
give w t r ty = record w {
  slots = place w.slots (In (RegisterOf t r)) (record { ty = ty; reference = in_ref w (RegisterOf t r) });
  obj = put w.obj (in_ref w (RegisterOf t r)) (record { live = true; global = false; ty = ty; owner = t });
  win = put w.win t Shut;
}

-- the cells of a new object
abbrev pub retype : (Slot → TypedReference) → ℕ → (ℕ → ObjectType) → Slot → TypedReference
retype f o ty (In a) = f (In a)
retype f o ty (Cell p i) =
    put {A = ℕ → TypedReference} (λ p i. f (Cell p i)) o (λ i. record { ty = ty i; reference = 0 }) p i

-- with its granules as they were found
abbrev pub make : TypeRules → World → Holder → ℕ → ObjectType → (ℕ → GranuleState) → World
make l w a o ty found = record w {
  slots = place (retype w.slots o (l.cell ty o)) (In a) (record { ty = ty; reference = o });
  count = put w.count o 1;
  obj = put w.obj o (record { live = true; global = false; ty = ty; owner = thread_of a });
  gran = put w.gran o found;
}

abbrev pub freed : World → ℕ → ℕ → World
freed w t r = record w {
  slots = place w.slots (In (RegisterOf t r)) none;
  count = put w.count (in_ref w (RegisterOf t r)) 0;
  obj = put w.obj (in_ref w (RegisterOf t r)) (record { live = false; global = false; ty = nothing; owner = 0 });
  win = put w.win t Shut;
}
