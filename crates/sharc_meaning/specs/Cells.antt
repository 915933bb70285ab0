-- Objects and their cells: where an element and a field lie, and which mutex a lock path names.
use Rattle.std.specs.Prelude.{ℕ, ℤ, ◌+◌, ◌==◌, Bool, List, [], ◌∷◌, length, position, Option, Some, None, unwrap_or}
use Rattle.std.specs.Prelude.{if◌then◌else◌}
use Rattle.std.specs.Str.{bytes_eq}
use Rattle.sharc_tree.specs.{declared.ctype.Base.Base, declared.event.CellAt.CellAt, declared.event.CellMode.CellMode}
use Rattle.sharc_tree.specs.declared.event.CellMode.TheVariants.{Private, Readonly, Locked, Racy, Dynamic}
use Rattle.sharc_tree.specs.{declared.event.Object.Object, declared.event.Object.TheVariants.{Global, Made}}
use Rattle.sharc_tree.specs.declared.tree.declaration.Declaration.{Declaration}
use Rattle.sharc_tree.specs.declared.tree.item.GlobalDefinition.{GlobalDefinition}
use Rattle.sharc_tree.specs.declared.tree.item.StructDefinition.{StructDefinition}
use Rattle.sharc_tree.specs.declared.ctype.Base.TheVariants as base
use Rattle.sharc_names.specs.{declared.fault.Named.Named, Kinds.{Kind, object, array, null, function}}
use Rattle.sharc_names.specs.declared.fault.Named.TheVariants as named
use Rattle.sharc_ctype.specs.Globals.{elements_of as elements_of_form}
use Rattle.sharc_ctype.specs.Resolved.{Resolution, named_at, declaration_at, structs_in}
use Rattle.sharc_mode.specs.Cells.{is_behind_pointer}
use Rattle.sharc_mode.specs.Sharings.{Lock, Sharing, private, readonly, locked, racy, dynamic}
use Rattle.sharc_mode.specs.WellFormed.{fields_behind}
use Rattle.sharc_meaning.specs.Reference.{is_null, number_of}

abbrev pub cell_of : Object → ℕ → CellAt
cell_of o n = record { object = o; cell = n }

-- ---- elements and fields

-- a value, a pointer and a mutex take one cell, a struct one for each of its fields, and `struct cond` one

abbrev pub struct_cells : List StructDefinition → List ℕ → ℕ
struct_cells [] name = 1
struct_cells (s ∷ rest) name = if bytes_eq s.name.text name then length s.fields else struct_cells rest name

abbrev pub base_cells : Resolution → Base → ℕ
base_cells r base.Int = 1
base_cells r base.Char = 1
base_cells r base.Long = 1
base_cells r base.Mutex = 1
base_cells r base.Void = 1
base_cells r (base.Struct name) = struct_cells (structs_in r.program.items) name

-- the cells of one element
abbrev pub element_cells : Resolution → Kind → ℕ
element_cells r (object b stars) = if stars == 0 then base_cells r b else 1
element_cells r (array b stars) = if stars == 0 then base_cells r b else 1
element_cells r null = 1
element_cells r function = 1

abbrev pub global_elements : Option GlobalDefinition → ℕ
global_elements None = 0
global_elements (Some g) = elements_of_form g.form

-- the place of a field among the fields of its struct: that of its cell among the cells of an element

abbrev pub place_in : List Declaration → ℕ → Option ℕ
place_in fields token = position (λ d. d.name.site.token == token) fields

abbrev pub field_place_in : List StructDefinition → ℕ → ℕ
field_place_in [] token = 0
field_place_in (s ∷ rest) token = unwrap_or (place_in s.fields token) (field_place_in rest token)

abbrev pub field_place : Resolution → ℕ → ℕ
field_place r token = field_place_in (structs_in r.program.items) token

abbrev pub field_place_named : Resolution → Named → ℕ
field_place_named r (named.Field token) = field_place r token
field_place_named r _ = 0

-- the place of the field with this name behind the variable that this token declares
abbrev pub field_place_behind : Resolution → ℕ → List ℕ → ℕ
field_place_behind r x name =
    unwrap_or (position (λ d. bytes_eq d.name.text name) (fields_behind r (declaration_at r x))) 0

-- ---- lock paths

-- Without siblings: the name of a global mutex names its first cell, and `x->m` the mutex `m` of the first element of
-- what `x` refers to. Where `x` is NULL the path names no mutex.

abbrev pub through : ℤ → ℕ → Option CellAt
through x place = if is_null x then None else Some (cell_of (Made (number_of x)) place)

-- by what the variables hold where the path is looked at
abbrev pub mutex_named : Resolution → (ℕ → ℤ) → Named → Option (List ℕ) → Option CellAt
mutex_named r held (named.Global n) m = Some (cell_of (Global n) 0)
mutex_named r held (named.Variable x) (Some m) = through (held x) (field_place_behind r x m)
mutex_named r held _ m = None

-- what guards a cell: a mutex, the mutex to which this pointer cell refers (its first), or nothing, where the path
-- leads through NULL
pub data Guard : Type 0 where
  mutex : CellAt → Guard
  behind : CellAt → Guard
  nothing : Guard

abbrev pub guard_by : Option CellAt → Guard
guard_by None = nothing
guard_by (Some c) = mutex c

-- a sibling is in the same element
abbrev pub guard_beside : Bool → CellAt → Guard
guard_beside is_pointer c = if is_pointer then behind c else mutex c

-- of a cell in the element that begins at this cell of this object
abbrev pub guard_named : Resolution → (ℕ → ℤ) → Object → ℕ → Lock → Named → Guard
guard_named r held o element l (named.Field token) =
    guard_beside (is_behind_pointer r l) (cell_of o (element + field_place r token))
guard_named r held o element l what = guard_by (mutex_named r held what l.second)

abbrev pub guard_of : Resolution → (ℕ → ℤ) → Object → ℕ → Lock → Guard
guard_of r held o element l = guard_named r held o element l (named_at r l.first)

-- the mode of an object that is made or given, by that of the target to which the reference goes
abbrev pub instance_mode : Resolution → (ℕ → ℤ) → Sharing → CellMode
instance_mode r held private = Private
instance_mode r held readonly = Readonly
instance_mode r held (locked l) = Locked (mutex_named r held (named_at r l.first) l.second)
instance_mode r held racy = Racy
instance_mode r held dynamic = Dynamic
