-- What a function assigns, initialises, passes and returns: one list, in source order.
use Rattle.std.specs.Prelude.{IsTrue, List, [], ◌∷◌, ◌++◌, Option, Some, None}
use Rattle.sharc_tree.specs.declared.tree.declaration.WrittenType.{WrittenType}
use Rattle.sharc_tree.specs.declared.tree.declaration.Declaration.{Declaration}
use Rattle.sharc_tree.specs.Tree.{Expression, identifier, constant, parentheses, call, spawn, on_value, on_place, cast}
use Rattle.sharc_tree.specs.Tree.{index, field, unary, binary, Arguments, no_arguments, argument, Right, value, malloc}
use Rattle.sharc_tree.specs.Tree.{Simple, assign, does_call, Local, First, nothing, declares, does, Statement, empty}
use Rattle.sharc_tree.specs.Tree.{block, declare, simple, jump, return, if_then, if_then_else, while, for, Statements}
use Rattle.sharc_tree.specs.Tree.{no_statements, statement, Function}
use Rattle.sharc_names.specs.{declared.fault.Named.Named, Kinds.{Kind, agrees, same_kind, declared_kind}}
use Rattle.sharc_names.specs.declared.fault.Named.TheVariants as named
use Rattle.sharc_ctype.specs.{Statements.made, Resolved.{Resolution, named_at, function_at, kind_at}}

-- what is given a value: an lvalue, a parameter or a local, or the result of the function
pub data Receiver : Type 0 where
  lvalue : Expression → Receiver
  variable : Declaration → Receiver
  result : WrittenType → Receiver

-- the value that it is given
pub record Transfer : Type 0 where
  pub receiver : Receiver
  pub source : Right

abbrev pub gives : Receiver → Right → List Transfer
gives receiver source = record { receiver = receiver; source = source } ∷ []

-- the parameters of what a name token names; the calls of condition variables have none that a program declares
abbrev pub parameters_of : Option Function → List Declaration
parameters_of None = []
parameters_of (Some f) = f.parameters

abbrev pub parameters_named : Resolution → Named → List Declaration
parameters_named r (named.Struct n) = []
parameters_named r (named.Global n) = []
parameters_named r (named.Function n) = parameters_of (function_at r n)
parameters_named r (named.Variable token) = []
parameters_named r (named.Field token) = []
parameters_named r named.Known = []

-- each argument to its parameter
abbrev pub passed : List Declaration → Arguments → List Transfer
passed [] all = []
passed (d ∷ rest) no_arguments = []
passed (d ∷ rest) (argument a more) = gives (variable d) (value a) ++ passed rest more

abbrev mutual
  pub transfers : Resolution → Expression → List Transfer
  transfers r (identifier s i) = []
  transfers r (constant s c) = []
  transfers r (parentheses s a) = transfers r a
  transfers r (call s f all) = passed (parameters_named r (named_at r f.site.token)) all ++ argument_transfers r all
  transfers r (spawn s f a) =
      passed (parameters_named r (named_at r f.site.token)) (argument a no_arguments) ++ transfers r a
  transfers r (on_value s w a) = transfers r a
  transfers r (on_place s w a) = transfers r a
  transfers r (cast s t a) = transfers r a
  transfers r (index s a i) = transfers r a ++ transfers r i
  transfers r (field s a w n) = transfers r a
  transfers r (unary s o a) = transfers r a
  transfers r (binary s o at a b) = transfers r a ++ transfers r b

  pub argument_transfers : Resolution → Arguments → List Transfer
  argument_transfers r no_arguments = []
  argument_transfers r (argument a rest) = transfers r a ++ argument_transfers r rest

abbrev pub in_option : {A : Type 0} → (A → List Transfer) → Option A → List Transfer
in_option f None = []
in_option f (Some x) = f x

abbrev pub right_transfers : Resolution → Right → List Transfer
right_transfers r (value e) = transfers r e
right_transfers r (malloc s n w) = in_option (transfers r) n

abbrev pub simple_transfers : Resolution → Simple → List Transfer
simple_transfers r (assign s u x) = gives (lvalue u) x ++ transfers r u ++ right_transfers r x
simple_transfers r (does_call e) = transfers r e

abbrev pub local_transfers : Resolution → Local → List Transfer
local_transfers r l = in_option (λ x. gives (variable l.declaration) x ++ right_transfers r x) l.initial

abbrev pub first_transfers : Resolution → First → List Transfer
first_transfers r nothing = []
first_transfers r (declares l) = local_transfers r l
first_transfers r (does x) = simple_transfers r x

abbrev mutual
  pub statement_transfers : Resolution → WrittenType → Statement → List Transfer
  statement_transfers r w (empty s) = []
  statement_transfers r w (block s all) = statements_transfers r w all
  statement_transfers r w (declare s l) = local_transfers r l
  statement_transfers r w (simple s x) = simple_transfers r x
  statement_transfers r w (jump s j) = []
  statement_transfers r w (return s e) = in_option (λ x. gives (result w) (value x) ++ transfers r x) e
  statement_transfers r w (if_then s e a) = transfers r e ++ statement_transfers r w a
  statement_transfers r w (if_then_else s e a b) =
      transfers r e ++ statement_transfers r w a ++ statement_transfers r w b
  statement_transfers r w (while s e a) = transfers r e ++ statement_transfers r w a
  statement_transfers r w (for s h a) = first_transfers r h.first ++ in_option (transfers r) h.test
      ++ in_option (simple_transfers r) h.step ++ statement_transfers r w a

  pub statements_transfers : Resolution → WrittenType → Statements → List Transfer
  statements_transfers r w no_statements = []
  statements_transfers r w (statement a rest) = statement_transfers r w a ++ statements_transfers r w rest

abbrev pub function_transfers : Resolution → Function → List Transfer
function_transfers r f = statements_transfers r f.result f.statements

-- 6.5.16.1: in a typed program each of them agrees

abbrev pub receiver_kind : Resolution → Receiver → Kind
receiver_kind r (lvalue u) = kind_at r u
receiver_kind r (variable d) = declared_kind d.written
receiver_kind r (result w) = declared_kind w

abbrev pub Agrees : Resolution → Kind → Right → Type 0
Agrees r want (value e) = IsTrue (agrees want (kind_at r e))
Agrees r want (malloc s n w) = IsTrue (same_kind want (made w))

abbrev pub IsFair : Resolution → Transfer → Type 0
IsFair r t = Agrees r (receiver_kind r t.receiver) t.source
