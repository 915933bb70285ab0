-- The cell of an lvalue, as the table has it: what it holds, and under which mode.
use Rattle.std.specs.Prelude.{◌≡◌, ◌⊎◌, ℕ, zero, suc, ◌-◌, ◌<◌, true, false, List, [], ◌∷◌, length, map, Option, Some}
use Rattle.std.specs.Prelude.{None, slice_index_or, if◌then◌else◌}
use Rattle.sharc_tree.specs.declared.tree.item.GlobalDefinition.{GlobalDefinition}
use Rattle.sharc_tree.specs.declared.tree.expression.FieldOperator.TheVariants.{Dot, Arrow}
use Rattle.sharc_tree.specs.{declared.tree.expression.UnaryOperator.TheVariants.Dereference, Low.IsLow, Placed.IsPlaced}
use Rattle.sharc_tree.specs.Tree.{Expression, identifier, parentheses, index, field, unary}
use Rattle.sharc_names.specs.declared.fault.Named.{Named}
use Rattle.sharc_names.specs.Kinds.{Kind, object, mutex, is_array, is_struct_behind, element_kind, declared_kind}
use Rattle.sharc_names.specs.declared.fault.Named.TheVariants as named
use Rattle.sharc_ctype.specs.Resolved.{Resolution, IsResolved, named_at, named_kind, global_at, kind_at}
use Rattle.sharc_mode.specs.{Cells.{is_mutex_kind, is_behind_pointer, cell_at}, Flows.IsLeastAssignment}
use Rattle.sharc_mode.specs.Moded.{Assignment}
use Rattle.sharc_mode.specs.Rows.{PathReading, Targets, written, declared_row, named_row, row_at, modes_of, modes_at}
use Rattle.sharc_mode.specs.{Sharings.{Lock, Sharing, private, readonly, locked, racy, dynamic}, WellModed.WellModed}
use Rattle.sharc_check.specs.Constructs.{IsExpression}
use Rattle.sharc_meaning.specs.Cells.{field_place, field_place_named}
use Rattle.sharc_flat.specs.Machine.{first_cell}
use Rattle.sharc_flat.specs.Places.{Target, in_object, in_object_at, in_global, in_global_at, target}
use Rattle.sharc_flat.specs.Tables.{globals_of}
use Rattle.sharc_invariant.specs.Types.{FieldLock, OfType, OfGlobals, OfElement, FieldMode, Under, Content, Pointer}
use Rattle.sharc_invariant.specs.Types.{Field, no_field, cells_of, field_at, FieldMode as own}
use Rattle.sharc_accepted_laws.specs.Shapes.{Form, form_of, expression_shape, number}
use Rattle.sharc_accepted_laws.specs.Targets.{lock_count, type_locks, field_locks, base_content, global_element}
use Rattle.sharc_accepted_laws.specs.Targets.{targets_of}

-- the pointer through which an lvalue leads
abbrev pub pointer_of : Resolution → Expression → Option Expression
pointer_of r (parentheses s a) = pointer_of r a
pointer_of r (index s a i) = if is_array (kind_at r a) then None else Some a
pointer_of r (field s a Dot n) = pointer_of r a
pointer_of r (field s a Arrow n) = Some a
pointer_of r (unary s Dereference a) = Some a
pointer_of r _ = None

-- a field of an object, or of an element of it that is told by an index
abbrev pub IsOfObject : Target → ℕ → Type 0
IsOfObject t n = (t ≡ in_object n) ⊎ (t ≡ in_object_at n)

abbrev pub IsOfGlobal : Target → ℕ → ℕ → Type 0
IsOfGlobal t g n = (t ≡ in_global g n) ⊎ (t ≡ in_global_at g n)

-- ---- what it holds
-- The locks of what a cell refers to, which is field n of an element whose own modes, from its own one on, are these:
-- those that are written in its declaration, of which the expression may be a use that reads them in another way, or
-- those of its element's type.
pub data LocksFit (m : Assignment) (e : Expression) (n : ℕ) (modes : List Sharing) : List FieldLock → Type 0 where
  are_written : (token : ℕ) (how : PathReading) → row_at m.typed e ≡ Some (declared_row m.typed how token)
      → LocksFit m e n modes (field_locks m.typed n (modes_of m (declared_row m.typed written token)))
  of_type : (q : Sharing) (below : List Sharing) → modes ≡ q ∷ below → modes_at m e ≡ Some below
      → LocksFit m e n modes (type_locks (lock_count (form_of q)) (map form_of below))

-- So, by the form of the lvalue: what is declared by a name has the locks that are written there, and what an element
-- refers to those of its type.
abbrev pub below_locks : List Form → List FieldLock
below_locks [] = []
below_locks (f ∷ below) = type_locks (lock_count f) below

abbrev pub locks_below : Option (List Sharing) → List FieldLock
locks_below None = []
locks_below (Some modes) = below_locks (map form_of modes)

abbrev pub named_locks : Assignment → ℕ → Named → List FieldLock
named_locks m n what = field_locks m.typed n (modes_of m (named_row m.typed written what))

abbrev pub cell_locks : Assignment → Expression → List FieldLock
cell_locks m (identifier s i) = named_locks m 0 (named_at m.typed i.site.token)
cell_locks m (parentheses s a) = cell_locks m a
cell_locks m (index s a i) = if is_array (kind_at m.typed a) then cell_locks m a else locks_below (modes_at m a)
cell_locks m (field s a w n) =
    named_locks m (field_place_named m.typed (named_at m.typed n.site.token)) (named_at m.typed n.site.token)
cell_locks m (unary s Dereference a) = locks_below (modes_at m a)
cell_locks m _ = []

pub record PointerFits (m : Assignment) (e : Expression) (n : ℕ) (modes : List Sharing) (holds : Content) : Type 0 where
  pub row : Targets
  pub is : row_at m.typed e ≡ Some row
  pub locks : List FieldLock
  pub fit : LocksFit m e n modes locks
  pub told : locks ≡ cell_locks m e
  pub pointer : holds ≡ Pointer (record { target = number m (expression_shape m e row); locks = locks })

abbrev pub ContentFits : Assignment → Expression → ℕ → List Sharing → Kind → Content → Type 0
ContentFits m e n modes (object b zero) holds = holds ≡ base_content b
ContentFits m e n modes (object b (suc stars)) holds = PointerFits m e n modes holds
ContentFits m e n modes _ holds = ⊥

-- ---- its mode
-- the mode of field n of an element whose own modes are these, where it is this in the source: a lock is the first one
-- of the element's type, a global's, or one of the same element, or behind a pointer of it
pub data ModeFits (r : Resolution) (n : ℕ) (modes : List Sharing) : Sharing → FieldMode → Type 0 where
  is_private : ModeFits r n modes private own.Private
  is_readonly : ModeFits r n modes readonly own.Readonly
  is_racy : ModeFits r n modes racy own.Racy
  is_dynamic : ModeFits r n modes dynamic own.Dynamic
  locked_by_type : {l : Lock} {below : List Sharing} → modes ≡ locked l ∷ below
      → ModeFits r n modes (locked l) (Under (OfType 0))
  locked_by_global : {l : Lock} {g : ℕ} → named_at r l.first ≡ named.Global g → named_kind r (named.Global g) ≡ mutex
      → ModeFits r n modes (locked l) (Under (OfGlobals (first_cell (globals_of r) g - 2)))
  locked_by_sibling : {l : Lock} {f : ℕ} → named_at r l.first ≡ named.Field f → is_behind_pointer r l ≡ false
      → ModeFits r n modes (locked l) (Under (OfElement n (field_place r f)))
  locked_behind : {l : Lock} {f : ℕ} → named_at r l.first ≡ named.Field f → is_behind_pointer r l ≡ true
      → ModeFits r n modes (locked l) (own.Behind n (field_place r f))

-- a mutex has no mode that is asked for
pub record FieldFits (m : Assignment) (e : Expression) (n : ℕ) (modes : List Sharing) (f : Field) : Type 0 where
  pub content : ContentFits m e n modes (kind_at m.typed e) f.holds
  pub mode : is_mutex_kind (kind_at m.typed e) ≡ false → ModeFits m.typed n modes (cell_at m e) f.mode

-- ---- where it is
-- the cell is field n of what a pointer refers to
pub record IsBehindPointer (m : Assignment) (e : Expression) (n : ℕ) : Type 0 where
  pub pointer : Expression
  pub leads : pointer_of m.typed e ≡ Some pointer
  pub stands : IsExpression m pointer
  pub row : Targets
  pub row_is : row_at m.typed pointer ≡ Some row
  pub some : 0 < row.count
  pub inside : n < cells_of (targets_of m) (number m (expression_shape m pointer row))
  pub fits : FieldFits m e n (modes_of m row) (field_at (targets_of m) (number m (expression_shape m pointer row)) n)

-- or of an element of a global
pub record IsInFile (m : Assignment) (e : Expression) (g n : ℕ) : Type 0 where
  pub global : GlobalDefinition
  pub defined : global_at m.typed g ≡ Some global
  pub inside : n < length (global_element m global)
  pub fits : FieldFits m e n [] (slice_index_or (global_element m global) n no_field)

-- what an lvalue that is no struct names: a variable, or a cell of one of both kinds
pub data NamesCell (m : Assignment) (e : Expression) : Target → Type 0 where
  no_cell : (t : Target) → ((n : ℕ) → IsOfObject t n → ⊥) → ((g n : ℕ) → IsOfGlobal t g n → ⊥) → NamesCell m e t
  of_object : (t : Target) (n : ℕ) → IsOfObject t n → IsBehindPointer m e n → NamesCell m e t
  of_global : (t : Target) (g n : ℕ) → IsOfGlobal t g n → IsInFile m e g n → NamesCell m e t

-- in a well-moded program with its least assignment each lvalue of a function that is no struct and no array names a
-- variable or such a cell
abbrev pub LvaluesFit : Type 0
LvaluesFit = (m : Assignment) → IsResolved m.typed → IsPlaced m.typed.program → IsLow m.typed.program
    → IsLeastAssignment m → WellModed m
    → (e : Expression) → IsExpression m e → is_struct_behind 0 (kind_at m.typed e) ≡ false
    → is_array (kind_at m.typed e) ≡ false → NamesCell m e (target m.typed None e)

-- ---- arrays
-- An array is a global that is named.
pub record IsArrayOf (m : Assignment) (a : Expression) : Type 0 where
  pub number : ℕ
  pub global : GlobalDefinition
  pub defined : global_at m.typed number ≡ Some global
  pub place : target m.typed None a ≡ in_global number 0
  pub element : element_kind (kind_at m.typed a) ≡ declared_kind global.declaration.written

abbrev pub ArraysFit : Type 0
ArraysFit = (m : Assignment) → IsResolved m.typed → IsPlaced m.typed.program → IsLow m.typed.program
    → IsLeastAssignment m → WellModed m
    → (a : Expression) → IsExpression m a → is_array (kind_at m.typed a) ≡ true → IsArrayOf m a
