-- The table of targets of a program: a row for each shape, and the cells of its globals.
use Rattle.std.specs.Prelude.{ℕ, zero, suc, ◌+◌, ◌-◌, ◌*◌, Bool, true, false, List, [], ◌∷◌, ◌++◌, map, replicate}
use Rattle.std.specs.Prelude.{Option, None, Some, if◌then◌else◌}
use Rattle.std.specs.{List.list_any, Str.bytes_eq}
use Rattle.sharc_tree.specs.{declared.ctype.Base.Base, declared.ctype.Mode.Mode}
use Rattle.sharc_tree.specs.declared.tree.declaration.Declaration.{Declaration}
use Rattle.sharc_tree.specs.declared.tree.declaration.WrittenType.{WrittenType}
use Rattle.sharc_tree.specs.declared.tree.item.GlobalDefinition.{GlobalDefinition}
use Rattle.sharc_tree.specs.declared.tree.item.StructDefinition.{StructDefinition}
use Rattle.sharc_tree.specs.declared.ctype.Base.TheVariants as base
use Rattle.sharc_tree.specs.declared.ctype.Mode.TheVariants as mode
use Rattle.sharc_names.specs.{declared.fault.Named.Named, Kinds.{is_pointer, declared_kind}}
use Rattle.sharc_names.specs.declared.fault.Named.TheVariants as named
use Rattle.sharc_ctype.specs.{Globals.elements_of, Entities.entity_at}
use Rattle.sharc_ctype.specs.Resolved.{Resolution, named_at, structs_in, globals_in}
use Rattle.sharc_mode.specs.{Cells.{is_mutex_kind, is_behind_pointer, top_of, first_mode}, Moded.Assignment}
use Rattle.sharc_mode.specs.Rows.{written, declared_row, modes_of}
use Rattle.sharc_mode.specs.Sharings.{Lock, Sharing, private, readonly, locked, racy, dynamic, lock_of}
use Rattle.sharc_meaning.specs.{Cells.{field_place, field_place_named}, References.{is_pointer_in, types_made}}
use Rattle.sharc_flat.specs.{Machine.first_cell, Places.base_as_width, Tables.{cells_in, granules_in, globals_of}}
use Rattle.sharc_invariant.specs.Types.{FieldLock, OfType, OfGlobals, OfElement, FieldMode, Under, Content, Integer}
use Rattle.sharc_invariant.specs.Types.{MutexWord, Waiters, Pointer, Field, Target, Targets, no_field, no_target}
use Rattle.sharc_invariant.specs.Types.{FieldMode as own}
use Rattle.sharc_accepted_laws.specs.Shapes.{Form, private_form, readonly_form, locked_form, racy_form, dynamic_form}
use Rattle.sharc_accepted_laws.specs.Shapes.{Shape, shape_of, shapes, number}

-- ---- locks and modes

-- the lock that a path names in the type of this field of an element: the mutex of a sibling or of a global, which is
-- counted from the first cell of granule 1. No other path may stand there
abbrev pub lock_named : Resolution → ℕ → Named → FieldLock
lock_named r n (named.Field token) = OfElement n (field_place r token)
lock_named r n (named.Global g) = OfGlobals (first_cell (globals_of r) g - 2)
lock_named r n _ = OfGlobals 0

abbrev pub field_lock : Resolution → ℕ → Lock → FieldLock
field_lock r n l = lock_named r n (named_at r l.first)

-- of the levels that are locked
abbrev pub field_locks : Resolution → ℕ → List Sharing → List FieldLock
field_locks r n [] = []
field_locks r n (locked l ∷ below) = field_lock r n l ∷ field_locks r n below
field_locks r n (_ ∷ below) = field_locks r n below

-- and in the type of an element, whose locks are told by their numbers, from this one on
abbrev pub type_locks : ℕ → List Form → List FieldLock
type_locks k [] = []
type_locks k (locked_form ∷ below) = OfType k ∷ type_locks (k + 1) below
type_locks k (_ ∷ below) = type_locks k below

-- how many locks a level has
abbrev pub lock_count : Form → ℕ
lock_count locked_form = 1
lock_count _ = 0

-- the mode of an element: where it is locked, its type's first lock is its own
abbrev pub own_mode : Form → FieldMode
own_mode private_form = own.Private
own_mode readonly_form = own.Readonly
own_mode locked_form = Under (OfType 0)
own_mode racy_form = own.Racy
own_mode dynamic_form = own.Dynamic

-- the mode of an element of a global
abbrev pub global_mode : Resolution → Sharing → FieldMode
global_mode r private = own.Private
global_mode r readonly = own.Readonly
global_mode r (locked l) = Under (field_lock r 0 l)
global_mode r racy = own.Racy
global_mode r dynamic = own.Dynamic

abbrev pub is_private_mode : FieldMode → Bool
is_private_mode own.Private = true
is_private_mode _ = false

abbrev pub is_private_form : Form → Bool
is_private_form private_form = true
is_private_form _ = false

-- the mode of this field in an element of mode q, where it has this lock
abbrev pub locked_mode : Resolution → ℕ → FieldMode → Lock → FieldMode
locked_mode r n q l =
    if is_behind_pointer r l
    then (if is_private_mode q then own.Private else own.Behind n (field_place_named r (named_at r l.first)))
    else Under (field_lock r n l)

-- by the mode that is written on its top
abbrev pub written_mode : Resolution → ℕ → FieldMode → Option Mode → FieldMode
written_mode r n q None = q
written_mode r n q (Some mode.Private) = own.Private
written_mode r n q (Some mode.Readonly) = if is_private_mode q then own.Private else own.Readonly
written_mode r n q (Some (mode.Locked path)) = locked_mode r n q (lock_of path)
written_mode r n q (Some mode.Racy) = own.Racy
written_mode r n q (Some mode.Dynamic) = own.Dynamic

-- a mutex is racy in each
abbrev pub field_mode : Resolution → ℕ → FieldMode → WrittenType → FieldMode
field_mode r n q w = if is_mutex_kind (declared_kind w) then own.Racy else written_mode r n q (top_of w.ctype.levels)

-- ---- contents

-- what is no pointer: a mutex, an integer, or the one cell of the known `struct cond`
abbrev pub base_content : Base → Content
base_content base.Mutex = MutexWord
base_content (base.Struct name) = Waiters
base_content b = Integer (base_as_width b)

-- a pointer to this base, whose targets have these modes, in this field
abbrev pub pointer_content : Assignment → ℕ → Base → List Sharing → Content
pointer_content m n b modes =
    Pointer (record { target = number m (shape_of b modes); locks = field_locks m.typed n modes })

-- what is declared in a struct or in the file
abbrev pub declared_content : Assignment → ℕ → Declaration → Content
declared_content m n d =
    if is_pointer (declared_kind d.written)
    then pointer_content m n d.written.ctype.base (modes_of m (declared_row m.typed written d.name.site.token))
    else base_content d.written.ctype.base

-- ---- elements

-- an element of one cell that is no pointer; the cell of a condition variable is racy as a mutex is, since no mode is
-- asked for it
abbrev pub single : FieldMode → Base → Field
single q base.Mutex = record { mode = own.Racy; holds = MutexWord }
single q (base.Struct name) = record { mode = own.Racy; holds = Waiters }
single q b = record { mode = q; holds = base_content b }

abbrev pub member : Assignment → FieldMode → ℕ → Declaration → Field
member m q n d = record { mode = field_mode m.typed n q d.written; holds = declared_content m n d }

-- the fields of a struct from this number on
abbrev pub members : Assignment → FieldMode → ℕ → List Declaration → List Field
members m q n [] = []
members m q n (d ∷ rest) = member m q n d ∷ members m q (n + 1) rest

abbrev pub struct_fields : Assignment → FieldMode → List StructDefinition → List ℕ → List Field
struct_fields m q [] name = single q (base.Struct name) ∷ []
struct_fields m q (s ∷ rest) name =
    if bytes_eq s.name.text name then members m q 0 s.fields else struct_fields m q rest name

-- an element of mode q that is no pointer
abbrev pub base_fields : Assignment → FieldMode → Base → List Field
base_fields m q (base.Struct name) = struct_fields m q (structs_in m.typed.program.items) name
base_fields m q b = single q b ∷ []

-- ---- rows

abbrev pub shape_fields : Assignment → Base → List Form → List Field
shape_fields m b [] = []
shape_fields m b (f ∷ []) = base_fields m (own_mode f) b
shape_fields m b (f ∷ g ∷ below) =
    record {
      mode = own_mode f;
      holds = Pointer (record {
        target = number m (record { base = b; forms = g ∷ below });
        locks = type_locks (lock_count f) (g ∷ below);
      });
    } ∷ []

abbrev pub starts_private : List Form → Bool
starts_private [] = false
starts_private (f ∷ below) = is_private_form f

abbrev pub shape_row : Assignment → Shape → Target
shape_row m s = record { fields = shape_fields m s.base s.forms; is_private = starts_private s.forms }

-- ---- globals

-- the mode of its top
abbrev pub top_mode : Assignment → GlobalDefinition → FieldMode
top_mode m g =
    global_mode m.typed (first_mode m (entity_at m.typed g.declaration.name.site.token g.declaration.name.site.token))

-- one element of a global
abbrev pub global_element : Assignment → GlobalDefinition → List Field
global_element m g =
    if is_pointer (declared_kind g.declaration.written)
    then record { mode = top_mode m g; holds = declared_content m 0 g.declaration } ∷ []
    else base_fields m (top_mode m g) g.declaration.written.ctype.base

abbrev pub repeated : ℕ → List Field → List Field
repeated zero fields = []
repeated (suc n) fields = fields ++ repeated n fields

-- a global has whole granules, of two cells
abbrev pub global_fields : Assignment → GlobalDefinition → List Field
global_fields m g = repeated (elements_of g.form) (global_element m g)
    ++ replicate (2 * granules_in m.typed g - cells_in m.typed g) no_field

abbrev pub all_global_fields : Assignment → List GlobalDefinition → List Field
all_global_fields m [] = []
all_global_fields m (g ∷ rest) = global_fields m g ++ all_global_fields m rest

-- ---- the table

abbrev pub targets_of : Assignment → Targets
targets_of m = record {
  rows = no_target ∷ map (shape_row m) (shapes m);
  globals = all_global_fields m (globals_in m.typed.program.items);
  is_made_pointer = λ token i. list_any (λ w. is_pointer_in m.typed w i) (types_made m.typed token);
}
