-- What the types of a source have to say of its accesses, so that they are typed: of each label where the variables
-- hold what their types say, and the registers of an lvalue its base and its index.
use Rattle.std.specs.Prelude.{ℕ, ◌+◌, ◌≡◌, ◌<◌, ◌≤◌, Bool, true, List, Option, Some, None}
use Rattle.sharc_tree.specs.{declared.token.Site.Site, Tree.{Expression, identifier}}
use Rattle.sharc_names.specs.declared.fault.Named.{Named}
use Rattle.sharc_names.specs.declared.fault.Named.TheVariants as named
use Rattle.sharc_code.specs.{declared.code.GlobalCells.GlobalCells, declared.code.Use.Use, declared.instr.Cell.Cell}
use Rattle.sharc_code.specs.declared.instr.Width.{Width}
use Rattle.sharc_mode.specs.Sharings.{Sharing}
use Rattle.sharc_flat.specs.{declared.op.Spot.Spot, Machine.first_cell, declared.slot.Lvalue.Lvalue}
use Rattle.sharc_flat.specs.Scope.{Context, int_count, ref_count, register_of, number_in}
use Rattle.sharc_flat.specs.Places.{Target, in_global_at, in_object, in_object_at, has_base, cell_of, guard_cell}
use Rattle.sharc_flat.specs.Places.{guard_field, spot_of}
use Rattle.sharc_flat.specs.Flattened.{what_names}
use Rattle.sharc_invariant.specs.{Types.{StaticType, Field, FieldType}, Types.FieldMode.Readonly}
use Rattle.sharc_invariant.specs.Types.Content.{Integer, Waiters, Pointer}
use Rattle.sharc_invariant.specs.Labels.{Entry, Refers, Element, Number, Within, OfElement, OfGlobal, Closed, Loaded}
use Rattle.sharc_invariant.specs.Labels.{Label, gated}
use Rattle.sharc_invariant.specs.Typed.{HasCell, IsMutex, PointsTo, refs_in}
use Rattle.sharc_typed_laws.specs.{Stretches.Setting, Places.MayReach}

-- ---- the types of a source
-- Of the value of an expression that is a reference; of the variables that stand, by their registers; and which
-- registers of references are those of constants.
pub record Typing : Type 0 where
  pub entry : Context → Expression → Entry
  pub pointer : Context → ℕ → StaticType
  pub width : Context → ℕ → Width
  pub named : Context → ℕ → Bool

-- the variables that stand hold values of their types
pub record HoldsVariables (y : Typing) (c : Context) (l : Label) : Type 0 where
  pub references : (q : ℕ) → q < ref_count c.scope → l.env q ≡ Refers (y.pointer c q)
  pub copies : (q : ℕ) → q < ref_count c.scope → l.same q ≡ q
  pub integers : (j : ℕ) → j < int_count c.scope → l.ints j ≡ Within (y.width c j)

-- ---- copies of constants
-- what is a copy of the variable in this register, if types name that variable: what an expression has that names it
abbrev pub IsCopyIn : Typing → Context → ℕ → ℕ → Type 0
IsCopyIn y c q copy = y.named c q ≡ true → copy ≡ q

abbrev pub IsCopyNamed : Typing → Context → Named → ℕ → Type 0
IsCopyNamed y c (named.Variable x) copy = IsCopyIn y c (number_in (register_of c.scope x)) copy
IsCopyNamed y c _ copy = Unit {0}

abbrev pub IsCopyOf : Typing → Context → Expression → ℕ → Type 0
IsCopyOf y c (identifier s x) copy = IsCopyNamed y c (what_names c x.site.token) copy
IsCopyOf y c _ copy = Unit {0}

abbrev pub IsPointerCopy : Typing → Context → Option Expression → ℕ → Type 0
IsPointerCopy y c None copy = Unit {0}
IsPointerCopy y c (Some p) copy = IsCopyOf y c p copy

-- ---- what an lvalue names
-- the type of its base, the pointer that this is the value of, the cells of an element, and how many elements a global
-- has
pub record Ground : Type 0 where
  pub base : StaticType
  pub pointer : Option Expression
  pub count : ℕ
  pub elements : ℕ

-- the numbers of a cell of an element, and of that with the mutex of the same element
abbrev pub HasNumbers : Label → ℕ → Option ℕ → (ℕ → Number) → ℕ → Type 0
HasNumbers q i None place n = q.ints i ≡ place n
HasNumbers q i (Some mutex) place n = (q.ints i ≡ place n) × (q.ints (i + 1) ≡ place mutex)

abbrev pub number_in_global : List GlobalCells → Ground → Element → ℕ → ℕ → Number
number_in_global globals ground e g n = OfGlobal (first_cell globals g + n) ground.count ground.elements e

abbrev pub HasIndex : List GlobalCells → Target → Option ℕ → Ground → Element → ℕ → ℕ → Label → Type 0
HasIndex globals (in_global_at g n) guard ground e i r q = HasNumbers q i guard (number_in_global globals ground e g) n
HasIndex globals (in_object_at n) guard ground e i r q = HasNumbers q i guard (λ field. OfElement r field e) n
HasIndex globals t guard ground e i r q = Unit {0}

abbrev pub HasBaseAt : Target → Ground → ℕ → Label → Type 0
HasBaseAt (in_object n) ground r q = (q.env r ≡ Refers ground.base) × (q.known r ≡ true)
HasBaseAt (in_object_at n) ground r q = (q.env r ≡ Refers ground.base) × (q.known r ≡ true)
HasBaseAt t ground r q = Unit {0}

-- its registers are these, and those of the variables and of its base are some of the frame
pub record IsPlaced (z : Setting) (y : Typing) (c : Context) (f : ℕ) (t : Target) (guard : Option ℕ) (ground : Ground)
    (e : Element) (i r : ℕ) (q : Label) : Type 0 where
  pub variables : HoldsVariables y c q
  pub variables_in : ref_count c.scope ≤ refs_in z.code (Some f)
  pub owned : q.function ≡ Some f
  pub closed : q.gate ≡ Closed
  pub base : HasBaseAt t ground r q
  pub frame : has_base t ≡ true → r < refs_in z.code (Some f)
  pub copy : has_base t ≡ true → IsPointerCopy y c ground.pointer (q.same r)
  pub index : HasIndex c.globals t guard ground e i r q

-- ---- accesses
-- the pointer to the mutex beside it may be read
pub record ReadsGuard (z : Setting) (q : Label) (cell : Cell) : Type 0 where
  pub field : Field
  pub to : FieldType
  pub has : HasCell z.targets z.code q cell field
  pub mode : field.mode ≡ Readonly
  pub holds : field.holds ≡ Pointer to

-- an integer of this width, and a reference of this type, may be read or written
pub record ReachesInteger (z : Setting) (q : Label) (write : Bool) (cell : Cell) (spot : Spot)
    (w : Width) : Type 0 where
  pub field : Field
  pub may : MayReach z q write cell spot field
  pub holds : field.holds ≡ Integer w

pub record ReachesReference (z : Setting) (q : Label) (write : Bool) (cell : Cell) (spot : Spot)
    (s : StaticType) : Type 0 where
  pub field : Field
  pub may : MayReach z q write cell spot field
  pub points : PointsTo q cell field s

-- a mutex, and the waiters of a condition variable, are in the cell
pub record HasMutex (z : Setting) (q : Label) (cell : Cell) : Type 0 where
  pub field : Field
  pub has : HasCell z.targets z.code q cell field
  pub mutex : IsMutex field

pub record HasWaiters (z : Setting) (q : Label) (cell : Cell) : Type 0 where
  pub field : Field
  pub has : HasCell z.targets z.code q cell field
  pub waiters : field.holds ≡ Waiters

-- after the pointer to the mutex was read, where there is one
abbrev pub ThroughGuard : Setting → Context → Target → ℕ → ℕ → Option ℕ → (Label → Type 0) → Label → Type 0
ThroughGuard z c t i r None Holds q = Holds q
ThroughGuard z c t i r (Some mutex) Holds q =
    ReadsGuard z q (guard_cell c.globals mutex i r t) × Holds (gated q (Loaded (guard_cell c.globals mutex i r t)))

-- what is named is a mutex
abbrev pub MutexTyped : Setting → Typing → Context → ℕ → Target → Option ℕ → Ground → Type 0
MutexTyped z y c f t guard ground = (e : Element) (i r : ℕ) (q : Label) → IsPlaced z y c f t guard ground e i r q
    → HasMutex z q (cell_of c.globals i r t)

module _ (z : Setting) (y : Typing) (c : Context) (f : ℕ) (t : Target) (guard : Option ℕ) (ground : Ground)
    (site : Site) (lvalue : Lvalue) (mode : Sharing) (write : Bool) (use_made : Use) where
  abbrev pub IntegerTyped : Width → Type 0
  IntegerTyped w = (e : Element) (i r : ℕ) (q : Label) → IsPlaced z y c f t guard ground e i r q
      → ThroughGuard z c t i r (guard_field c.program.typed mode)
      (λ k. ReachesInteger z k write (cell_of c.globals i r t) (spot_of c i r site lvalue use_made mode t) w) q

  abbrev pub ReferenceTyped : StaticType → Type 0
  ReferenceTyped s = (e : Element) (i r : ℕ) (q : Label) → IsPlaced z y c f t guard ground e i r q
      → ThroughGuard z c t i r (guard_field c.program.typed mode)
      (λ k. ReachesReference z k write (cell_of c.globals i r t) (spot_of c i r site lvalue use_made mode t) s) q
