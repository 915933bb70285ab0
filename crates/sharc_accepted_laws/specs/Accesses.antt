-- Accesses of the source, as typed code asks for them: where the registers of an lvalue have its base and its index,
-- its cell may be accessed in its mode.
use Rattle.std.specs.Prelude.{◌≡◌, ℕ, ◌+◌, ◌<◌, Bool, true, false, List, [], ◌∷◌, Option, Some, None}
use Rattle.sharc_tree.specs.{declared.tree.item.GlobalDefinition.GlobalDefinition, Tree.Expression}
use Rattle.sharc_names.specs.declared.fault.Named.TheVariants as named
use Rattle.sharc_names.specs.Kinds.{Kind, null, mutex, declared_kind, is_array, is_struct_behind}
use Rattle.sharc_code.specs.{declared.code.Code.Code, declared.instr.Cell.Cell}
use Rattle.sharc_ctype.specs.Resolved.{Resolution, named_at, named_kind, global_at, kind_at}
use Rattle.sharc_meaning.specs.Cells.{element_cells, global_elements, field_place_behind}
use Rattle.sharc_mode.specs.{Cells.{is_mutex_kind, cell_at}, Moded.Assignment, Rows.modes_at}
use Rattle.sharc_mode.specs.Sharings.{Lock, Sharing, private, readonly, locked}
use Rattle.sharc_check.specs.Constructs.{IsExpression}
use Rattle.sharc_flat.specs.{declared.op.Spot.Spot, Machine.first_cell, Scope.Context}
use Rattle.sharc_flat.specs.Places.{Target, variable, in_global, in_global_at, in_object, in_object_at, target, cell_of}
use Rattle.sharc_flat.specs.Places.{guard_cell, field_of, beside_field, guard_field, place_mode, lock_cell}
use Rattle.sharc_flat.specs.Tables.{globals_of}
use Rattle.sharc_invariant.specs.Types.{StaticType, Field, MutexWord, cells_of, field_at}
use Rattle.sharc_invariant.specs.Labels.{Refers, Element, OfElement, OfGlobal, Closed, Loaded, Label, Labels}
use Rattle.sharc_invariant.specs.Typed.{IsRef, HasCell, HasBefore, IsMode, IsOwn, PointsToMutex}
use Rattle.sharc_typed_laws.specs.{Inside.lock_of, Lines.MayPass}
use Rattle.sharc_accepted_laws.specs.{StaticLaws.IsAccepted, Static.{register, static_of}, TargetLaws.HasTables}
use Rattle.sharc_accepted_laws.specs.{Lvalues.{FieldFits, pointer_of}, Targets.targets_of}

-- ---- what an access asks for
-- the cell exists and has this field, the site tells its mode, and it may be accessed once it is checked
pub record Reaches (c : Context) (code : Code) (ls : Labels) (q : Label) (write : Bool) (cell : Cell) (spot : Spot)
    (f : Field) : Type 0 where
  pub cell_there : HasCell (targets_of c.program) code q cell f
  pub mode : IsMode code q cell f.mode spot.mode
  pub may : MayPass (targets_of c.program) code ls false q write cell (lock_of spot spot.mode) f.holds f.mode

-- the readonly pointer to the mutex, in the same element
pub record Guards (c : Context) (code : Code) (q : Label) (cell : Cell) : Type 0 where
  pub field : Field
  pub there : HasCell (targets_of c.program) code q cell field
  pub points : PointsToMutex (targets_of c.program) field

-- ---- registers
-- the register has a reference of this type, which is not NULL
pub record HasBaseIn (code : Code) (q : Label) (r : ℕ) (s : StaticType) : Type 0 where
  pub is_ref : IsRef code q r
  pub refers : q.env r ≡ Refers s
  pub known : q.known r ≡ true

-- an index register, and the next one where the mutex of the same element, or the pointer to it, is accessed too
abbrev pub HasIndexOf : ℕ → Option ℕ → (ℕ → ℕ → Type 0) → ℕ → Type 0
HasIndexOf i None Is n = Is i n
HasIndexOf i (Some beside) Is n = Is i n × Is (i + 1) beside

abbrev pub IsCellNumber : Label → ℕ → Element → ℕ → ℕ → Type 0
IsCellNumber q r e i n = q.ints i ≡ OfElement r n e

-- the cells of an element of a global
abbrev pub cells_in_each : Resolution → Option GlobalDefinition → ℕ
cells_in_each r None = 0
cells_in_each r (Some d) = element_cells r (declared_kind d.declaration.written)

abbrev pub IsPlaceNumber : Context → Label → ℕ → Element → ℕ → ℕ → Type 0
IsPlaceNumber c q g e i n = q.ints i ≡ OfGlobal (first_cell c.globals g + n)
    (cells_in_each c.program.typed (global_at c.program.typed g)) (global_elements (global_at c.program.typed g)) e

-- the modes of what the pointer refers to through which the lvalue leads
abbrev pub list_or : Option (List Sharing) → List Sharing
list_or None = []
list_or (Some modes) = modes

abbrev pub modes_of_pointer : Assignment → Option Expression → List Sharing
modes_of_pointer m None = []
modes_of_pointer m (Some p) = list_or (modes_at m p)

abbrev pub modes_behind : Assignment → Expression → List Sharing
modes_behind m e = modes_of_pointer m (pointer_of m.typed e)

abbrev pub kind_of_pointer : Resolution → Option Expression → Kind
kind_of_pointer r None = null
kind_of_pointer r (Some p) = kind_at r p

abbrev pub base_type : Context → Expression → StaticType
base_type c e = static_of c (kind_of_pointer c.program.typed (pointer_of c.program.typed e)) (modes_behind c.program e)

-- The registers have what an lvalue names: its base, and the numbers of its cell and of the one that its mode names in
-- the same element.
abbrev pub HaveTarget : Context → Code → Label → Target → Option ℕ → StaticType → Element → (i r : ℕ) → Type 0
HaveTarget c code q (variable x) beside base e i r = Unit {0}
HaveTarget c code q (in_global g n) beside base e i r = Unit {0}
HaveTarget c code q (in_global_at g n) beside base e i r = HasIndexOf i beside (IsPlaceNumber c q g e) n
HaveTarget c code q (in_object n) beside base e i r = HasBaseIn code q r base
HaveTarget c code q (in_object_at n) beside base e i r =
    HasBaseIn code q r base × HasIndexOf i beside (IsCellNumber q r e) n

abbrev pub HaveLvalue : Context → Code → Label → Expression → Element → (i r : ℕ) → Type 0
HaveLvalue c code q e element i r = HaveTarget c code q (target c.program.typed None e)
    (beside_field c.program.typed (cell_at c.program e)) (base_type c e) element i r

-- ---- lock paths
-- the mutex that a path in the type of an element leads to, by a global or by the register of a variable
pub data LockStands (c : Context) (code : Code) (q : Label) (l : Lock) : Type 0 where
  of_global : (g : ℕ) → named_at c.program.typed l.first ≡ named.Global g
      → named_kind c.program.typed (named.Global g) ≡ mutex → LockStands c code q l
  of_variable : (x : ℕ) (name : List ℕ) (s : StaticType) → named_at c.program.typed l.first ≡ named.Variable x
      → l.second ≡ Some name → IsRef code q (register c x) → q.env (register c x) ≡ Refers s
      → field_place_behind c.program.typed x name < cells_of (targets_of c.program) s.target
      → (field_at (targets_of c.program) s.target (field_place_behind c.program.typed x name)).holds ≡ MutexWord
      → LockStands c code q l

-- ---- modes
-- What the mode of an element's cell asks for apart from its registers: who owns what is private, that nothing readonly
-- is written, and, where the first of the modes of the element's type is a lock, that its path leads to a mutex.
pub record IsFairAccess (c : Context) (code : Code) (ls : Labels) (q : Label) (write : Bool) (cell : Cell)
    (modes : List Sharing) (mode : Sharing) : Type 0 where
  pub own : mode ≡ private → IsOwn ls q cell
  pub reads : mode ≡ readonly → write ≡ false
  pub path : (l : Lock) (below : List Sharing) → modes ≡ locked l ∷ below → mode ≡ locked l → LockStands c code q l

-- the pointer to the mutex was loaded just before, if the mode has one
abbrev pub IsGated : Label → (ℕ → Cell) → Option ℕ → Type 0
IsGated q guard None = q.gate ≡ Closed
IsGated q guard (Some mutex) = q.gate ≡ Loaded (guard mutex)

-- ---- the laws
-- an lvalue that is a cell, and no struct
pub record IsCellLvalue (m : Assignment) (e : Expression) : Type 0 where
  pub stands : IsExpression m e
  pub no_struct : is_struct_behind 0 (kind_at m.typed e) ≡ false
  pub no_array : is_array (kind_at m.typed e) ≡ false
  pub no_variable : (x : ℕ) → target m.typed None e ≡ variable x → ⊥

-- code with the tables of a program that is accepted
pub record IsCodeOf (c : Context) (code : Code) : Type 0 where
  pub accepted : IsAccepted c.program
  pub globals : c.globals ≡ globals_of c.program.typed
  pub tables : HasTables c.program code

-- the cell exists, and holds what the type of the lvalue says
pub record StandsThere (c : Context) (code : Code) (q : Label) (e : Expression) (cell : Cell) : Type 0 where
  pub field : Field
  pub there : HasCell (targets_of c.program) code q cell field
  pub before : HasBefore code q (field_of (target c.program.typed None e)) cell
  pub fits : FieldFits c.program e (field_of (target c.program.typed None e)) (modes_behind c.program e) field

abbrev pub CellsStand : Type 0
CellsStand = (c : Context) (code : Code) → IsCodeOf c code → (q : Label) (e : Expression) → IsCellLvalue c.program e
    → (element : Element) (i r : ℕ) (beside : Option ℕ)
    → HaveTarget c code q (target c.program.typed None e) beside (base_type c e) element i r
    → StandsThere c code q e (cell_of c.globals i r (target c.program.typed None e))

-- what an access in the mode of the source asks for
pub record AccessFits (c : Context) (code : Code) (ls : Labels) (q : Label) (write : Bool) (e : Expression)
    (cell : Cell) (spot : Spot) : Type 0 where
  pub field : Field
  pub fits : FieldFits c.program e (field_of (target c.program.typed None e)) (modes_behind c.program e) field
  pub reaches : Reaches c code ls q write cell spot field

abbrev pub AccessesFit : Type 0
AccessesFit = (c : Context) (code : Code) → IsCodeOf c code → (q : Label) (e : Expression) → IsCellLvalue c.program e
    → (element : Element) (i r : ℕ) → HaveLvalue c code q e element i r
    → is_mutex_kind (kind_at c.program.typed e) ≡ false
    → IsGated q (λ mutex. guard_cell c.globals mutex i r (target c.program.typed None e))
    (guard_field c.program.typed (cell_at c.program e))
    → (ls : Labels) (write : Bool) → IsFairAccess c code ls q write
    (cell_of c.globals i r (target c.program.typed None e)) (modes_behind c.program e) (cell_at c.program e)
    → (spot : Spot) → spot.mode ≡ place_mode c (field_of (target c.program.typed None e)) (cell_at c.program e)
    → spot.lock ≡ lock_cell c i r (target c.program.typed None e) (cell_at c.program e)
    → AccessFits c code ls q write e (cell_of c.globals i r (target c.program.typed None e)) spot

-- the pointer to the mutex, where the mode has one, is loaded from the same element
abbrev pub GuardsFit : Type 0
GuardsFit = (c : Context) (code : Code) → IsCodeOf c code → (q : Label) (e : Expression) → IsCellLvalue c.program e
    → (element : Element) (i r : ℕ) → HaveLvalue c code q e element i r
    → is_mutex_kind (kind_at c.program.typed e) ≡ false
    → ((l : Lock) (below : List Sharing) → modes_behind c.program e ≡ locked l ∷ below → cell_at c.program e ≡ locked l
    → LockStands c code q l)
    → (mutex : ℕ) → guard_field c.program.typed (cell_at c.program e) ≡ Some mutex
    → Guards c code q (guard_cell c.globals mutex i r (target c.program.typed None e))
