-- What an expression points to: positions of some declared type, and how their lock paths are read where it is used.
use Rattle.std.specs.Prelude.{ℕ, ◌+◌, ◌-◌, ◌==◌, Bool, false, List, [], ◌∷◌, take, drop, map, option_map, Option, Some}
use Rattle.std.specs.Prelude.{None, is_some, if◌then◌else◌}
use Rattle.sharc_tree.specs.{declared.token.Span.Span, declared.tree.declaration.Declaration.Declaration}
use Rattle.sharc_tree.specs.declared.tree.item.GlobalDefinition.{GlobalDefinition}
use Rattle.sharc_tree.specs.declared.tree.expression.FieldOperator.{FieldOperator}
use Rattle.sharc_tree.specs.declared.tree.expression.FieldOperator.TheVariants.{Dot, Arrow}
use Rattle.sharc_tree.specs.declared.tree.expression.UnaryOperator.{UnaryOperator}
use Rattle.sharc_tree.specs.declared.tree.expression.UnaryOperator.TheVariants.{Negate, Not, Complement, Dereference}
use Rattle.sharc_tree.specs.declared.tree.expression.Constant.{Constant}
use Rattle.sharc_tree.specs.declared.tree.expression.Constant.TheVariants.{Number, Character, Null}
use Rattle.sharc_tree.specs.Tree.{Expression, identifier, constant, parentheses, call, spawn, on_value, on_place, cast}
use Rattle.sharc_tree.specs.Tree.{index, field, unary, binary, Arguments, no_arguments, argument, Function}
use Rattle.sharc_names.specs.{declared.fault.Named.Named, declared.types.Role.Role, Kinds.is_array}
use Rattle.sharc_names.specs.declared.fault.Named.TheVariants as named
use Rattle.sharc_names.specs.declared.types.Role.TheVariants as role
use Rattle.sharc_ctype.specs.Resolved.{Resolution, named_at, global_at, function_at, kind_at}
use Rattle.sharc_ctype.specs.{declared.entity.Numbered.Numbered, Entities.{entity_at, positions_of}}
use Rattle.sharc_ctype.specs.Constants.{is_constant}
use Rattle.sharc_mode.specs.Moded.{Assignment}
use Rattle.sharc_mode.specs.Sharings.{Lock, Sharing, private, readonly, locked, racy, dynamic, sharing_of, text_at}
use Rattle.sharc_mode.specs.Sharings.{is_sibling_lock, variable_of}

-- as they are written; through `x->f` with `x` a constant variable, which is at this token; at a call with these
-- parameters and arguments
pub data PathReading : Type 0 where
  written : PathReading
  through : ℕ → PathReading
  at_call : List Declaration → Arguments → PathReading

-- this many positions from the first on, from the first target down
pub record Targets : Type 0 where
  pub first : ℕ
  pub count : ℕ
  pub reading : PathReading

-- Constant variables where they are used. The form of a use is meant without parentheses.

abbrev pub is_constant_named : Resolution → Named → Bool
is_constant_named r (named.Variable x) = is_constant r x
is_constant_named r _ = false

-- the token of the use
abbrev pub constant_use : Resolution → Expression → Option ℕ
constant_use r (identifier s i) = if is_constant_named r (named_at r i.site.token) then Some i.site.token else None
constant_use r _ = None

-- the `x` of a use `x->f`
abbrev pub base_use : Resolution → FieldOperator → Expression → Option ℕ
base_use r Dot a = None
base_use r Arrow a = constant_use r a

-- the argument for the parameter that this token declares, where it is a constant variable
abbrev pub argument_use : Resolution → List Declaration → Arguments → ℕ → Option ℕ
argument_use r [] all x = None
argument_use r (d ∷ rest) no_arguments x = None
argument_use r (d ∷ rest) (argument a more) x =
    if d.name.site.token == x then constant_use r a else argument_use r rest more x

-- Lock paths as they are read.

-- a sibling's name `m` becomes `x->m`
abbrev pub lock_through : Resolution → ℕ → Lock → Lock
lock_through r at l = if is_sibling_lock r l then record { first = at; second = Some (text_at r l.first) } else l

-- `x->m` becomes `y->m`
abbrev pub with_base : Option ℕ → Lock → Lock
with_base None l = l
with_base (Some y) l = record { first = y; second = l.second }

-- the variable `x` of a path `x->m`
abbrev pub path_variable : Resolution → Lock → Option ℕ
path_variable r l = if is_some l.second then variable_of r l else None

abbrev pub lock_for : Resolution → List Declaration → Arguments → Option ℕ → Lock → Lock
lock_for r ds all None l = l
lock_for r ds all (Some x) l = with_base (argument_use r ds all x) l

abbrev pub read_lock : Resolution → PathReading → Lock → Lock
read_lock r written l = l
read_lock r (through at) l = lock_through r at l
read_lock r (at_call ds all) l = lock_for r ds all (path_variable r l) l

abbrev pub read : Resolution → PathReading → Sharing → Sharing
read r how private = private
read r how readonly = readonly
read r how (locked l) = locked (read_lock r how l)
read r how racy = racy
read r how dynamic = dynamic

-- The rows of declared types.

-- of what has no target
abbrev pub no_row : Targets
no_row = record { first = 0; count = 0; reading = written }

-- what it points to in turn
abbrev pub deeper : Targets → Targets
deeper row =
    if row.count == 0 then row else record { first = row.first + 1; count = row.count - 1; reading = row.reading }

-- the first position of a global is its top, of any other the first target
abbrev pub targets_from : Role → Targets → Targets
targets_from role.Global row = deeper row
targets_from _ row = row

abbrev pub entity_row : PathReading → Option Numbered → Targets
entity_row how None = no_row
entity_row how (Some n) =
    targets_from n.entity.role (record { first = n.first; count = positions_of n.entity; reading = how })

-- of the type of what this token declares
abbrev pub declared_row : Resolution → PathReading → ℕ → Targets
declared_row r how token = entity_row how (entity_at r token token)

abbrev pub cast_row : Resolution → Span → Targets
cast_row r s = entity_row written (entity_at r s.first.token s.last.token)

abbrev pub global_row : Resolution → PathReading → Option GlobalDefinition → Targets
global_row r how None = no_row
global_row r how (Some g) = declared_row r how g.declaration.name.site.token

abbrev pub named_row : Resolution → PathReading → Named → Targets
named_row r how (named.Struct n) = no_row
named_row r how (named.Global n) = global_row r how (global_at r n)
named_row r how (named.Function n) = no_row
named_row r how (named.Variable token) = declared_row r how token
named_row r how (named.Field token) = declared_row r how token
named_row r how named.Known = no_row

abbrev pub result_row : Resolution → Option Function → Targets
result_row r None = no_row
result_row r (Some f) = declared_row r written f.name.site.token

abbrev pub called_row : Resolution → Named → Targets
called_row r (named.Struct n) = no_row
called_row r (named.Global n) = no_row
called_row r (named.Function n) = result_row r (function_at r n)
called_row r (named.Variable token) = no_row
called_row r (named.Field token) = no_row
called_row r named.Known = no_row

-- The row of an expression; none of NULL, which agrees with every pointer type.

abbrev pub behind : Option Targets → Option Targets
behind None = None
behind (Some row) = Some (deeper row)

abbrev pub constant_row : Constant → Option Targets
constant_row (Number n) = Some no_row
constant_row (Character b) = Some no_row
constant_row Null = None

abbrev pub reading_through : Option ℕ → PathReading
reading_through None = written
reading_through (Some at) = through at

abbrev pub unary_row : UnaryOperator → Option Targets → Option Targets
unary_row Negate row = Some no_row
unary_row Not row = Some no_row
unary_row Complement row = Some no_row
unary_row Dereference row = behind row

-- an element of an array has the type that is written, an element of what a pointer refers to one star less
abbrev pub row_at : Resolution → Expression → Option Targets
row_at r (identifier s i) = Some (named_row r written (named_at r i.site.token))
row_at r (constant s c) = constant_row c
row_at r (parentheses s a) = row_at r a
row_at r (call s f all) = Some (called_row r (named_at r f.site.token))
row_at r (spawn s f a) = Some no_row
row_at r (on_value s w a) = Some no_row
row_at r (on_place s w a) = Some no_row
row_at r (cast s t a) = Some (cast_row r s)
row_at r (index s a i) = if is_array (kind_at r a) then row_at r a else behind (row_at r a)
row_at r (field s a w n) = Some (named_row r (reading_through (base_use r w a)) (named_at r n.site.token))
row_at r (unary s o a) = unary_row o (row_at r a)
row_at r (binary s o at a b) = Some no_row

-- the modes of the targets, from depth 1 on

abbrev pub modes_of : Assignment → Targets → List Sharing
modes_of m row = map (λ mode. read m.typed row.reading (sharing_of mode)) (take row.count (drop row.first m.modes))

abbrev pub modes_at : Assignment → Expression → Option (List Sharing)
modes_at m e = option_map (modes_of m) (row_at m.typed e)
