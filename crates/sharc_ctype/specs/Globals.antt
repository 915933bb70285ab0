-- Globals: their lengths, their cells and their initial values.
use Rattle.std.specs.Prelude.{ℕ, ◌+◌, ◌*◌, ◌^◌, ◌==◌, nat_le, nat_lt, Bool, true, false, ◌&&◌, List, [], ◌∷◌, ◌++◌}
use Rattle.std.specs.Prelude.{Option, Some, None, if◌then◌else◌, unsigned_abs}
use Rattle.sharc_tree.specs.declared.ctype.Base.{Base}
use Rattle.sharc_tree.specs.declared.ctype.Base.TheVariants.{Int, Char, Long, Mutex, Void, Struct}
use Rattle.sharc_tree.specs.declared.tree.declaration.WrittenType.{WrittenType}
use Rattle.sharc_tree.specs.declared.tree.expression.Constant.{Constant}
use Rattle.sharc_tree.specs.declared.tree.expression.Constant.TheVariants.{Number, Character, Null}
use Rattle.sharc_tree.specs.declared.tree.item.GlobalDefinition.{GlobalDefinition}
use Rattle.sharc_tree.specs.declared.tree.item.GlobalForm.{GlobalForm}
use Rattle.sharc_tree.specs.declared.tree.item.GlobalForm.TheVariants.{Plain, Array, Initial}
use Rattle.sharc_tree.specs.Tree.{Item, structure, global, function}
use Rattle.sharc_names.specs.declared.fault.FaultCode.TheVariants.{TypeMismatch, TypeNotAllowed, BadForm, LimitPassed}
use Rattle.sharc_names.specs.{declared.scope.Scope.Scope, Kinds.stars_of}
use Rattle.sharc_names.specs.Names.{StructTable, StructMeaning, struct_of, cells_of}
use Rattle.sharc_names.specs.{Notes.{Note, fault, fault_unless, fault_where}, Types.type_notes}
use Rattle.sharc_names.specs.declared.types.Role.TheVariants as role

-- how many elements a global has
abbrev pub elements_of : GlobalForm → ℕ
elements_of Plain = 1
elements_of (Array at count) = unsigned_abs count.value
elements_of (Initial span minus constant) = 1

-- a value, a pointer and a mutex take one cell; a struct that is not known none
abbrev pub struct_cells : Option StructMeaning → ℕ
struct_cells None = 0
struct_cells (Some s) = cells_of s

abbrev pub base_cells : StructTable → Base → ℕ
base_cells structs Int = 1
base_cells structs Char = 1
base_cells structs Long = 1
base_cells structs Mutex = 1
base_cells structs Void = 1
base_cells structs (Struct name) = struct_cells (struct_of structs name)

abbrev pub type_cells : StructTable → WrittenType → ℕ
type_cells structs w = if stars_of w == 0 then base_cells structs w.ctype.base else 1

abbrev pub global_cells : StructTable → GlobalDefinition → ℕ
global_cells structs g = elements_of g.form * type_cells structs g.declaration.written

-- 6.7.6.2p1: an array has an element at least
abbrev pub length_notes : GlobalForm → List Note
length_notes Plain = []
length_notes (Array at count) = fault_where (unsigned_abs count.value == 0) at.token TypeNotAllowed
length_notes (Initial span minus constant) = []

-- 6.7.9p11: a constant, or its negative, that an integer type holds (own: it is not converted)

abbrev pub holds : Base → Bool → ℕ → Bool
holds Char minus n = if minus then nat_le n (2 ^ 7) else nat_lt n (2 ^ 7)
holds Int minus n = if minus then nat_le n (2 ^ 31) else nat_lt n (2 ^ 31)
holds Long minus n = if minus then nat_le n (2 ^ 63) else nat_lt n (2 ^ 63)
holds Mutex minus n = false
holds Void minus n = false
holds (Struct name) minus n = false

abbrev pub holds_constant : Base → Bool → Constant → Bool
holds_constant base minus (Number n) = holds base minus (unsigned_abs n.value)
holds_constant base minus (Character byte) = holds base minus byte
holds_constant base minus Null = false

-- a pointer begins at NULL alone
abbrev pub is_null_constant : Constant → Bool
is_null_constant (Number n) = false
is_null_constant (Character byte) = false
is_null_constant Null = true

-- a struct or a mutex has no initialiser, and a variable of type `void` is refused at its type
abbrev pub base_initial_notes : Base → ℕ → ℕ → Bool → Constant → List Note
base_initial_notes Int name at minus c = fault_unless (holds_constant Int minus c) at TypeMismatch
base_initial_notes Char name at minus c = fault_unless (holds_constant Char minus c) at TypeMismatch
base_initial_notes Long name at minus c = fault_unless (holds_constant Long minus c) at TypeMismatch
base_initial_notes Mutex name at minus c = fault name BadForm ∷ []
base_initial_notes Void name at minus c = []
base_initial_notes (Struct s) name at minus c = fault name BadForm ∷ []

abbrev pub initial_notes : GlobalDefinition → GlobalForm → List Note
initial_notes g Plain = []
initial_notes g (Array at count) = []
initial_notes g (Initial span minus c) =
    if stars_of g.declaration.written == 0
    then base_initial_notes g.declaration.written.ctype.base g.declaration.name.site.token span.first.token minus c
    else fault_unless (is_null_constant c) span.first.token TypeMismatch

-- the faults of a global but for its size
abbrev pub global_notes : Scope → GlobalDefinition → List Note
global_notes scope g =
    type_notes scope [] role.Global g.declaration.written ++ length_notes g.form ++ initial_notes g g.form

-- at most 65,536 elements of one array, and 65,536 cells of all globals up to this one and with it
abbrev pub size_notes : ℕ → GlobalDefinition → List Note
size_notes cells g =
    fault_unless (nat_le (elements_of g.form) 65536 && nat_le cells 65536) g.declaration.name.site.token LimitPassed

abbrev pub item_cells : StructTable → Item → ℕ
item_cells structs (structure s) = 0
item_cells structs (global g) = global_cells structs g
item_cells structs (function f) = 0

abbrev pub cells_of_all : StructTable → List Item → ℕ
cells_of_all structs [] = 0
cells_of_all structs (i ∷ rest) = item_cells structs i + cells_of_all structs rest

abbrev pub item_size_notes : StructTable → ℕ → Item → List Note
item_size_notes structs before (structure s) = []
item_size_notes structs before (global g) = size_notes (before + global_cells structs g) g
item_size_notes structs before (function f) = []

-- the globals among items, after others that have this many cells
abbrev pub sizes_notes : StructTable → ℕ → List Item → List Note
sizes_notes structs before [] = []
sizes_notes structs before (i ∷ rest) =
    item_size_notes structs before i ++ sizes_notes structs (before + item_cells structs i) rest
