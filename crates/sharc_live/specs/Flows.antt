-- The paths through a function: one clause for each form of expression and statement.
use Rattle.std.specs.Prelude.{ℕ, List, [], ◌∷◌, Option, Some, None}
use Rattle.sharc_tree.specs.{declared.tree.declaration.Declaration.Declaration}
use Rattle.sharc_tree.specs.{declared.tree.expression.FieldOperator.FieldOperator}
use Rattle.sharc_tree.specs.declared.tree.expression.FieldOperator.TheVariants.{Dot, Arrow}
use Rattle.sharc_tree.specs.declared.tree.expression.BinaryOperator.{BinaryOperator}
use Rattle.sharc_tree.specs.declared.tree.expression.BinaryOperator.TheVariants.{LogicalOr, LogicalAnd}
use Rattle.sharc_tree.specs.declared.tree.expression.PlaceCall.{PlaceCall}
use Rattle.sharc_tree.specs.declared.tree.expression.PlaceCall.TheVariants.{Lock, Unlock, Free}
use Rattle.sharc_tree.specs.declared.tree.expression.UnaryOperator.{UnaryOperator}
use Rattle.sharc_tree.specs.declared.tree.expression.UnaryOperator.TheVariants.{Dereference}
use Rattle.sharc_tree.specs.declared.tree.statement.Jump.{Jump}
use Rattle.sharc_tree.specs.declared.tree.statement.Jump.TheVariants.{Break, Continue}
use Rattle.sharc_tree.specs.Tree.{Expression, identifier, constant, parentheses, call, spawn, on_value, on_place, cast}
use Rattle.sharc_tree.specs.Tree.{index, field, unary, binary, Arguments, no_arguments, argument, Right, value, malloc}
use Rattle.sharc_tree.specs.Tree.{Simple, assign, does_call, Local, First, nothing, declares, does, Head, Statement}
use Rattle.sharc_tree.specs.Tree.{empty, block, declare, simple, jump, return, if_then, if_then_else, while, for}
use Rattle.sharc_tree.specs.Tree.{Statements, no_statements, statement, Function}
use Rattle.sharc_names.specs.declared.fault.Named.{Named}
use Rattle.sharc_names.specs.declared.fault.Named.TheVariants as named
use Rattle.sharc_ctype.specs.Resolved.{Resolution, named_at}
use Rattle.sharc_dataflow.specs.Flow.{Reads, Nulls, Writes, Next, Broken, Continued, Ends}
use Rattle.sharc_dataflow.specs.Code.{Code, goes_to, acts, first_then, one_of, catches, repeats}

-- ---- what is done with a local, which is given by the token that declares it

abbrev pub goes_on : Code
goes_on = goes_to Next

abbrev pub reads : Option ℕ → ℕ → Code
reads None token = goes_on
reads (Some x) token = acts (Reads x token)

abbrev pub nulls : Option ℕ → ℕ → Code
nulls None token = goes_on
nulls (Some x) token = acts (Nulls x token)

abbrev pub writes : Option ℕ → Code
writes None = goes_on
writes (Some x) = acts (Writes x)

abbrev pub variable_named : Named → Option ℕ
variable_named (named.Variable x) = Some x
variable_named _ = None

abbrev pub through : FieldOperator → Option ℕ → Option ℕ
through Dot x = x
through Arrow x = None

-- the local that an lvalue names, or has a part of
abbrev pub variable_of : Resolution → Expression → Option ℕ
variable_of r (identifier s i) = variable_named (named_at r i.site.token)
variable_of r (parentheses s a) = variable_of r a
variable_of r (field s a w n) = through w (variable_of r a)
variable_of r _ = None

-- ---- expressions

-- the right operand of `&&` and `||` is evaluated or not
abbrev pub of_operands : BinaryOperator → Code → Code → Code
of_operands LogicalAnd a b = first_then a (one_of goes_on b)
of_operands LogicalOr a b = first_then a (one_of goes_on b)
of_operands _ a b = first_then a b

-- the source of `free` is nulled
abbrev pub of_place_call : PlaceCall → Code → Code → Code
of_place_call Lock place nulling = place
of_place_call Unlock place nulling = place
of_place_call Free place nulling = first_then place nulling

abbrev pub of_base : FieldOperator → Code → Code → Code
of_base Dot place pointer = place
of_base Arrow place pointer = pointer

abbrev pub of_operand : UnaryOperator → Code → Code
of_operand Dereference pointer = pointer
of_operand _ pointer = goes_on

abbrev mutual
  -- a value: operands and arguments from left to right; the source of a cast is found, and then nulled
  pub flow : Resolution → Expression → Code
  flow r (identifier s i) = reads (variable_named (named_at r i.site.token)) i.site.token
  flow r (constant s c) = goes_on
  flow r (parentheses s a) = flow r a
  flow r (call s f all) = flow_all r all
  flow r (spawn s f a) = flow r a
  flow r (on_value s w a) = flow r a
  flow r (on_place s w a) = of_place_call w (place_flow r a) (nulls (variable_of r a) s.first.token)
  flow r (cast s t a) = first_then (place_flow r a) (nulls (variable_of r a) s.first.token)
  flow r (index s a i) = first_then (flow r a) (flow r i)
  flow r (field s a w n) =
      first_then (of_base w (place_flow r a) (flow r a)) (reads (through w (variable_of r a)) s.first.token)
  flow r (unary s o a) = flow r a
  flow r (binary s o at a b) = of_operands o (flow r a) (flow r b)

  pub flow_all : Resolution → Arguments → Code
  flow_all r no_arguments = goes_on
  flow_all r (argument a rest) = first_then (flow r a) (flow_all r rest)

  -- what an lvalue names is found: the local itself is not read
  pub place_flow : Resolution → Expression → Code
  place_flow r (identifier s i) = goes_on
  place_flow r (parentheses s a) = place_flow r a
  place_flow r (index s a i) = first_then (flow r a) (flow r i)
  place_flow r (field s a w n) = of_base w (place_flow r a) (flow r a)
  place_flow r (unary s o a) = of_operand o (flow r a)
  place_flow r _ = goes_on

-- ---- statements

abbrev pub of_option : {A : Type 0} → (A → Code) → Option A → Code
of_option f None = goes_on
of_option f (Some x) = f x

abbrev pub right_flow : Resolution → Right → Code
right_flow r (value e) = flow r e
right_flow r (malloc s n t) = of_option (flow r) n

-- the place on the left comes first, and is written last
abbrev pub simple_flow : Resolution → Simple → Code
simple_flow r (assign s u x) = first_then (place_flow r u) (first_then (right_flow r x) (writes (variable_of r u)))
simple_flow r (does_call e) = flow r e

abbrev pub declares_flow : Declaration → Code
declares_flow d = acts (Writes d.name.site.token)

-- a declaration is a write both before and after its initialiser
abbrev pub local_flow : Resolution → Local → Code
local_flow r l = first_then (declares_flow l.declaration)
    (first_then (of_option (right_flow r) l.initial) (declares_flow l.declaration))

abbrev pub first_flow : Resolution → First → Code
first_flow r nothing = goes_on
first_flow r (declares l) = local_flow r l
first_flow r (does x) = simple_flow r x

-- a turn of a loop: the test leads past the loop, or on to the body and then the step; without a test there is no way
-- out but a break
abbrev pub turn_flow : Option Code → Code → Code → Code
turn_flow None body step = first_then (catches body) step
turn_flow (Some test) body step = first_then test (one_of (goes_to Broken) (first_then (catches body) step))

abbrev pub test_flow : Resolution → Option Expression → Option Code
test_flow r None = None
test_flow r (Some e) = Some (flow r e)

abbrev pub jump_flow : Jump → Code
jump_flow Break = goes_to Broken
jump_flow Continue = goes_to Continued

abbrev pub for_flow : Resolution → Head → Code → Code
for_flow r h body =
    first_then (first_flow r h.first) (repeats (turn_flow (test_flow r h.test) body (of_option (simple_flow r) h.step)))

abbrev mutual
  -- both ways of a test are open
  pub statement_flow : Resolution → Statement → Code
  statement_flow r (empty s) = goes_on
  statement_flow r (block s all) = statements_flow r all
  statement_flow r (declare s l) = local_flow r l
  statement_flow r (simple s x) = simple_flow r x
  statement_flow r (jump s j) = jump_flow j
  statement_flow r (return s e) = first_then (of_option (flow r) e) (goes_to Ends)
  statement_flow r (if_then s e a) = first_then (flow r e) (one_of (statement_flow r a) goes_on)
  statement_flow r (if_then_else s e a b) = first_then (flow r e) (one_of (statement_flow r a) (statement_flow r b))
  statement_flow r (while s e a) = repeats (turn_flow (Some (flow r e)) (statement_flow r a) goes_on)
  statement_flow r (for s h a) = for_flow r h (statement_flow r a)

  pub statements_flow : Resolution → Statements → Code
  statements_flow r no_statements = goes_on
  statements_flow r (statement a rest) = first_then (statement_flow r a) (statements_flow r rest)

-- parameters are written at entry
abbrev pub parameters_flow : List Declaration → Code
parameters_flow [] = goes_on
parameters_flow (d ∷ rest) = first_then (declares_flow d) (parameters_flow rest)

abbrev pub function_flow : Resolution → Function → Code
function_flow r f = first_then (parameters_flow f.parameters) (statements_flow r f.statements)
