-- What names mean where they are written (C11 6.2.1 to 6.2.3).
use Rattle.std.specs.Prelude.{ℕ, Bool, true, false, List, [], ◌∷◌, length, Option, Some, None, if◌then◌else◌, codes}
use Rattle.std.specs.{Str.bytes_eq, Map.lookup}
use Rattle.sharc_tree.specs.declared.tree.declaration.Identifier.{Identifier}
use Rattle.sharc_tree.specs.declared.tree.declaration.WrittenType.{WrittenType}
use Rattle.sharc_tree.specs.declared.tree.declaration.Declaration.{Declaration}
use Rattle.sharc_tree.specs.declared.tree.item.GlobalDefinition.{GlobalDefinition}
use Rattle.sharc_tree.specs.declared.tree.item.GlobalForm.{GlobalForm}
use Rattle.sharc_tree.specs.declared.tree.item.GlobalForm.TheVariants.{Plain, Array, Initial}
use Rattle.sharc_names.specs.{declared.fault.Named.Named, declared.meaning.ConditionCall.ConditionCall}
use Rattle.sharc_names.specs.declared.meaning.ConditionCall.TheVariants.{Wait, Signal, Broadcast}
use Rattle.sharc_names.specs.Kinds.{Kind, object, array, void, condition_pointer, mutex_pointer, declared_kind}
use Rattle.sharc_names.specs.Kinds.{declared_kinds}
use Rattle.sharc_names.specs.declared.fault.Named.TheVariants as named
use Rattle.sharc_names.specs.Kinds as kinds

-- what a function is called by
pub record Signature : Type 0 where
  pub name : Identifier
  pub result : WrittenType
  pub parameters : List Declaration

-- a parameter or a local, a global with its number, a function with its number, a call of condition variables that the
-- program does not define
pub data Meaning : Type 0 where
  variable : Declaration → Meaning
  global : ℕ → GlobalDefinition → Meaning
  function : ℕ → Signature → Meaning
  condition : ConditionCall → Meaning

-- a declared name; its block is given by how many names were in scope where the block begins, which is 0 for the file
pub record Entry : Type 0 where
  pub name : List ℕ
  pub block : ℕ
  pub meaning : Meaning

-- the names in scope, the last declared first: so the last hides the others (6.2.1p4)
abbrev pub look_up : List Entry → List ℕ → Option Entry
look_up [] name = None
look_up (e ∷ rest) name = if bytes_eq e.name name then Some e else look_up rest name

-- a struct of the file with its number and its fields, or `struct cond` where the program does not define it
pub data StructMeaning : Type 0 where
  defined : ℕ → List Declaration → StructMeaning
  known : StructMeaning

-- structs have a name space of their own (6.2.3)
abbrev pub StructTable : Type 0
StructTable = List (List ℕ × StructMeaning)

abbrev pub struct_of : StructTable → List ℕ → Option StructMeaning
struct_of structs name = lookup (bytes_eq name) structs

-- the first field of that name
abbrev pub field_of : List Declaration → List ℕ → Option Declaration
field_of [] name = None
field_of (d ∷ rest) name = if bytes_eq d.name.text name then Some d else field_of rest name

-- the one cell of `struct cond` has no name
abbrev pub fields_of : StructMeaning → List Declaration
fields_of (defined n fields) = fields
fields_of known = []

abbrev pub cells_of : StructMeaning → ℕ
cells_of (defined n fields) = length fields
cells_of known = 1

abbrev pub named_struct : StructMeaning → Named
named_struct (defined n fields) = named.Struct n
named_struct known = named.Known

abbrev pub global_kind : GlobalForm → Kind → Kind
global_kind Plain kind = kind
global_kind (Array at count) (object base stars) = array base stars
global_kind (Array at count) kind = kind
global_kind (Initial span minus constant) kind = kind

abbrev pub kind_of : Meaning → Kind
kind_of (variable d) = declared_kind d.written
kind_of (global number g) = global_kind g.form (declared_kind g.declaration.written)
kind_of (function number f) = kinds.function
kind_of (condition call) = kinds.function

abbrev pub named_of : Meaning → Named
named_of (variable d) = named.Variable d.name.site.token
named_of (global number g) = named.Global number
named_of (function number f) = named.Function number
named_of (condition call) = named.Known

abbrev pub is_function : Meaning → Bool
is_function (variable d) = false
is_function (global number g) = false
is_function (function number f) = true
is_function (condition call) = true

-- the function `main`
abbrev pub is_main : Meaning → Bool
is_main (variable d) = false
is_main (global number g) = false
is_main (function number f) = bytes_eq f.name.text (codes "main")
is_main (condition call) = false

-- `void wait(struct cond * c, mutex * m)`, `void signal(struct cond * c)`, `void broadcast(struct cond * c)`
abbrev pub condition_parameters : ConditionCall → List Kind
condition_parameters Wait = condition_pointer ∷ (mutex_pointer ∷ [])
condition_parameters Signal = condition_pointer ∷ []
condition_parameters Broadcast = condition_pointer ∷ []

-- what a name may be called with, and what such a call gives; a variable is not called
abbrev pub parameters_of : Meaning → Option (List Kind)
parameters_of (variable d) = None
parameters_of (global number g) = None
parameters_of (function number f) = Some (declared_kinds f.parameters)
parameters_of (condition call) = Some (condition_parameters call)

abbrev pub result_of : Meaning → Kind
result_of (variable d) = void
result_of (global number g) = void
result_of (function number f) = declared_kind f.result
result_of (condition call) = void
