-- The resolved program: what crates above see of a typed program in place of scopes.
use Rattle.std.specs.Prelude.{◌≡◌, ℕ, ◌==◌, List, [], ◌∷◌, ◌++◌, slice_index_or, slice_get, Option, Some, None}
use Rattle.std.specs.Prelude.{if◌then◌else◌}
use Rattle.sharc_tree.specs.declared.tree.declaration.Declaration.{Declaration}
use Rattle.sharc_tree.specs.declared.tree.item.StructDefinition.{StructDefinition}
use Rattle.sharc_tree.specs.declared.tree.item.GlobalDefinition.{GlobalDefinition}
use Rattle.sharc_tree.specs.Tree.{Function, Item, structure, global, function, Program, Expression, identifier}
use Rattle.sharc_tree.specs.Tree.{constant, parentheses, call, spawn, on_value, on_place, cast, index, field, unary}
use Rattle.sharc_tree.specs.Tree.{binary}
use Rattle.sharc_names.specs.{declared.fault.Named.Named, Kinds.{Kind, int, void, declared_kind, element_kind}}
use Rattle.sharc_names.specs.Names.{global_kind}
use Rattle.sharc_names.specs.declared.fault.Named.TheVariants as named
use Rattle.sharc_names.specs.Kinds as kinds
use Rattle.sharc_ctype.specs.Expressions.{constant_kind, unary_result, class_of, binary_result}
use Rattle.sharc_ctype.specs.{Statements.locals_in_all, Items.{IsTyped, named_in}}

-- a program, and what each of its tokens names
pub record Resolution : Type 0 where
  pub program : Program
  pub named : List Named

-- the program is typed, and its names name what they mean
pub record IsResolved (r : Resolution) : Type 0 where
  pub typed : IsTyped r.program
  pub named : r.named ≡ named_in r.program

-- The structs, the globals and the functions, each by its number: they are counted from 0 in source order.

abbrev pub structs_in : List Item → List StructDefinition
structs_in [] = []
structs_in (structure s ∷ rest) = s ∷ structs_in rest
structs_in (global g ∷ rest) = structs_in rest
structs_in (function f ∷ rest) = structs_in rest

abbrev pub globals_in : List Item → List GlobalDefinition
globals_in [] = []
globals_in (structure s ∷ rest) = globals_in rest
globals_in (global g ∷ rest) = g ∷ globals_in rest
globals_in (function f ∷ rest) = globals_in rest

abbrev pub functions_in : List Item → List Function
functions_in [] = []
functions_in (structure s ∷ rest) = functions_in rest
functions_in (global g ∷ rest) = functions_in rest
functions_in (function f ∷ rest) = f ∷ functions_in rest

-- the fields, parameters and locals, in source order; each is known by the token of its name
abbrev pub declarations_of : Item → List Declaration
declarations_of (structure s) = s.fields
declarations_of (global g) = []
declarations_of (function f) = f.parameters ++ locals_in_all f.statements

abbrev pub declarations_in : List Item → List Declaration
declarations_in [] = []
declarations_in (i ∷ rest) = declarations_of i ++ declarations_in rest

abbrev pub declared_at : List Declaration → ℕ → Option Declaration
declared_at [] token = None
declared_at (d ∷ rest) token = if d.name.site.token == token then Some d else declared_at rest token

abbrev pub named_at : Resolution → ℕ → Named
named_at r token = slice_index_or r.named token named.Known

abbrev pub struct_at : Resolution → ℕ → Option StructDefinition
struct_at r n = slice_get (structs_in r.program.items) n

abbrev pub global_at : Resolution → ℕ → Option GlobalDefinition
global_at r n = slice_get (globals_in r.program.items) n

abbrev pub function_at : Resolution → ℕ → Option Function
function_at r n = slice_get (functions_in r.program.items) n

abbrev pub declaration_at : Resolution → ℕ → Option Declaration
declaration_at r token = declared_at (declarations_in r.program.items) token

-- The type of an expression, from what its name tokens name alone. It is total: what names nothing has the kind of a
-- function's name.

abbrev pub variable_kind : Option Declaration → Kind
variable_kind None = kinds.function
variable_kind (Some d) = declared_kind d.written

abbrev pub global_kind_of : Option GlobalDefinition → Kind
global_kind_of None = kinds.function
global_kind_of (Some g) = global_kind g.form (declared_kind g.declaration.written)

abbrev pub result_kind_of : Option Function → Kind
result_kind_of None = void
result_kind_of (Some f) = declared_kind f.result

abbrev pub named_kind : Resolution → Named → Kind
named_kind r (named.Struct n) = kinds.function
named_kind r (named.Global n) = global_kind_of (global_at r n)
named_kind r (named.Function n) = kinds.function
named_kind r (named.Variable token) = variable_kind (declaration_at r token)
named_kind r (named.Field token) = variable_kind (declaration_at r token)
named_kind r named.Known = kinds.function

-- `wait`, `signal` and `broadcast` give nothing
abbrev pub called_kind : Resolution → Named → Kind
called_kind r (named.Struct n) = void
called_kind r (named.Global n) = void
called_kind r (named.Function n) = result_kind_of (function_at r n)
called_kind r (named.Variable token) = void
called_kind r (named.Field token) = void
called_kind r named.Known = void

abbrev pub kind_at : Resolution → Expression → Kind
kind_at r (identifier s i) = named_kind r (named_at r i.site.token)
kind_at r (constant s c) = constant_kind c
kind_at r (parentheses s a) = kind_at r a
kind_at r (call s f all) = called_kind r (named_at r f.site.token)
kind_at r (spawn s f a) = int
kind_at r (on_value s w a) = void
kind_at r (on_place s w a) = void
kind_at r (cast s t a) = declared_kind t
kind_at r (index s a i) = element_kind (kind_at r a)
kind_at r (field s a w n) = named_kind r (named_at r n.site.token)
kind_at r (unary s o a) = unary_result o (kind_at r a)
kind_at r (binary s o at a b) = binary_result (class_of o) (kind_at r a) (kind_at r b)
