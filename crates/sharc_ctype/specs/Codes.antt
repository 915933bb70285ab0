-- How the logic stores a program: its expressions and statements as trees of two children a node, each with what is at
-- the node itself.
use Rattle.std.specs.{Prelude.{◌≡◌, [], Option, refl}, Coded.{Coded, code_by}}
use base.Stored.{Gv, gnil, gnum, gcons}
use mathlib.Core.Path.{ap, subst, sym}
use Rattle.sharc_tree.specs.{declared.token.Site.Site, declared.token.Span.Span}
use Rattle.sharc_tree.specs.declared.tree.declaration.Identifier.{Identifier}
use Rattle.sharc_tree.specs.{declared.tree.declaration.WrittenType.WrittenType}
use Rattle.sharc_tree.specs.{declared.tree.expression.FieldOperator.FieldOperator}
use Rattle.sharc_tree.specs.declared.tree.expression.BinaryOperator.{BinaryOperator}
use Rattle.sharc_tree.specs.declared.tree.expression.UnaryOperator.{UnaryOperator}
use Rattle.sharc_tree.specs.{declared.tree.expression.PlaceCall.PlaceCall, declared.tree.expression.ValueCall.ValueCall}
use Rattle.sharc_tree.specs.{declared.tree.expression.Constant.Constant, declared.tree.statement.Jump.Jump}
use Rattle.sharc_tree.specs.Tree.{Expression, identifier, constant, parentheses, call, spawn, on_value, on_place, cast}
use Rattle.sharc_tree.specs.Tree.{index, field, unary, binary, Arguments, no_arguments, argument, Local, Simple, Head}
use Rattle.sharc_tree.specs.Tree.{Statement, empty, block, declare, simple, jump, return, if_then, if_then_else, while}
use Rattle.sharc_tree.specs.Tree.{for, Statements, no_statements, statement}

pub data Bush (L : Type 0) : Type 0 where
  bare : Bush L
  bush : L → Bush L → Bush L → Bush L

abbrev head : Gv → Gv
head gnil = gnil
head (gnum n) = gnil
head (gcons a b) = a

abbrev tail : Gv → Gv
tail gnil = gnil
tail (gnum n) = gnil
tail (gcons a b) = b

abbrev IsCons : Gv → Type 0
IsCons gnil = ⊥
IsCons (gnum n) = ⊥
IsCons (gcons a b) = Unit {0}

module _ {L : Type 0} (c : Coded L) where
  abbrev code_bush : Bush L → Gv
  code_bush bare = gnil
  code_bush (bush l a b) = gcons (c.code l) (gcons (code_bush a) (code_bush b))

  pub inj_bush : (x y : Bush L) → code_bush x ≡ code_bush y → x ≡ y
  inj_bush bare bare p = refl
  inj_bush (bush l a b) (bush m u v) p = λ i. bush (c.inj l m (ap head p) i)
      (inj_bush a u (ap (λ g. head (tail g)) p) i) (inj_bush b v (ap (λ g. tail (tail g)) p) i)
  inj_bush bare (bush m u v) p = absurd (subst IsCons (sym p) tt)
  inj_bush (bush l a b) bare p = absurd (subst IsCons p tt)

  abbrev pub coded_bush : Coded (Bush L)
  coded_bush = record { code = code_bush; inj = inj_bush }

-- an expression without its parts, and a place in a list of arguments
pub data ExpressionLabel : Type 0 where
  identifier_at : Span → Identifier → ExpressionLabel
  constant_at : Span → Constant → ExpressionLabel
  parentheses_at : Span → ExpressionLabel
  call_at : Span → Identifier → ExpressionLabel
  spawn_at : Span → Identifier → ExpressionLabel
  value_call_at : Span → ValueCall → ExpressionLabel
  place_call_at : Span → PlaceCall → ExpressionLabel
  cast_at : Span → WrittenType → ExpressionLabel
  index_at : Span → ExpressionLabel
  field_at : Span → FieldOperator → Identifier → ExpressionLabel
  unary_at : Span → UnaryOperator → ExpressionLabel
  binary_at : Span → BinaryOperator → Site → ExpressionLabel
  argument_at : ExpressionLabel

abbrev mutual
  pub bush_of : Expression → Bush ExpressionLabel
  bush_of (identifier s i) = bush (identifier_at s i) bare bare
  bush_of (constant s c) = bush (constant_at s c) bare bare
  bush_of (parentheses s a) = bush (parentheses_at s) (bush_of a) bare
  bush_of (call s f all) = bush (call_at s f) (bush_of_all all) bare
  bush_of (spawn s f a) = bush (spawn_at s f) (bush_of a) bare
  bush_of (on_value s w a) = bush (value_call_at s w) (bush_of a) bare
  bush_of (on_place s w a) = bush (place_call_at s w) (bush_of a) bare
  bush_of (cast s t a) = bush (cast_at s t) (bush_of a) bare
  bush_of (index s a i) = bush (index_at s) (bush_of a) (bush_of i)
  bush_of (field s a w n) = bush (field_at s w n) (bush_of a) bare
  bush_of (unary s o a) = bush (unary_at s o) (bush_of a) bare
  bush_of (binary s o at a b) = bush (binary_at s o at) (bush_of a) (bush_of b)

  pub bush_of_all : Arguments → Bush ExpressionLabel
  bush_of_all no_arguments = bare
  bush_of_all (argument a rest) = bush argument_at (bush_of a) (bush_of_all rest)

abbrev no_span : Span
no_span = record { first = record { file = 0; line = 0; token = 0 }; last = record { file = 0; line = 0; token = 0 } }

abbrev no_expression : Expression
no_expression = call no_span (record { site = record { file = 0; line = 0; token = 0 }; text = [] }) no_arguments

abbrev expression_by : ExpressionLabel → Expression × Arguments → Expression → Expression
expression_by (identifier_at s i) a b = identifier s i
expression_by (constant_at s c) a b = constant s c
expression_by (parentheses_at s) a b = parentheses s a.0
expression_by (call_at s f) a b = call s f a.1
expression_by (spawn_at s f) a b = spawn s f a.0
expression_by (value_call_at s w) a b = on_value s w a.0
expression_by (place_call_at s w) a b = on_place s w a.0
expression_by (cast_at s t) a b = cast s t a.0
expression_by (index_at s) a b = index s a.0 b
expression_by (field_at s w n) a b = field s a.0 w n
expression_by (unary_at s o) a b = unary s o a.0
expression_by (binary_at s o at) a b = binary s o at a.0 b
expression_by argument_at a b = no_expression

-- the expression of a bush, and the arguments that it is
abbrev pub from_bush : Bush ExpressionLabel → Expression × Arguments
from_bush bare = (no_expression, no_arguments)
from_bush (bush l a b) = (expression_by l (from_bush a) (from_bush b).0, argument (from_bush a).0 (from_bush b).1)

mutual
  pub expression_back : (e : Expression) → (from_bush (bush_of e)).0 ≡ e
  expression_back (identifier s i) = refl
  expression_back (constant s c) = refl
  expression_back (parentheses s a) = ap (parentheses s) (expression_back a)
  expression_back (call s f all) = ap (call s f) (arguments_back all)
  expression_back (spawn s f a) = ap (spawn s f) (expression_back a)
  expression_back (on_value s w a) = ap (on_value s w) (expression_back a)
  expression_back (on_place s w a) = ap (on_place s w) (expression_back a)
  expression_back (cast s t a) = ap (cast s t) (expression_back a)
  expression_back (index s a i) = λ k. index s (expression_back a k) (expression_back i k)
  expression_back (field s a w n) = ap (λ x. field s x w n) (expression_back a)
  expression_back (unary s o a) = ap (unary s o) (expression_back a)
  expression_back (binary s o at a b) = λ k. binary s o at (expression_back a k) (expression_back b k)

  pub arguments_back : (all : Arguments) → (from_bush (bush_of_all all)).1 ≡ all
  arguments_back no_arguments = refl
  arguments_back (argument a rest) = λ k. argument (expression_back a k) (arguments_back rest k)

abbrev pub coded_expression : Coded ExpressionLabel → Coded Expression
coded_expression c = code_by (Bush ExpressionLabel) (coded_bush c) bush_of (λ b. (from_bush b).0) expression_back

-- a statement without the statements in it, and a place in a list of statements
pub data StatementLabel : Type 0 where
  empty_at : Span → StatementLabel
  block_at : Span → StatementLabel
  declare_at : Span → Local → StatementLabel
  simple_at : Span → Simple → StatementLabel
  jump_at : Span → Jump → StatementLabel
  return_at : Span → Option Expression → StatementLabel
  if_at : Span → Expression → StatementLabel
  if_else_at : Span → Expression → StatementLabel
  while_at : Span → Expression → StatementLabel
  for_at : Span → Head → StatementLabel
  statement_at : StatementLabel

abbrev mutual
  pub bush_in : Statement → Bush StatementLabel
  bush_in (empty s) = bush (empty_at s) bare bare
  bush_in (block s all) = bush (block_at s) (bush_in_all all) bare
  bush_in (declare s l) = bush (declare_at s l) bare bare
  bush_in (simple s x) = bush (simple_at s x) bare bare
  bush_in (jump s j) = bush (jump_at s j) bare bare
  bush_in (return s e) = bush (return_at s e) bare bare
  bush_in (if_then s e a) = bush (if_at s e) (bush_in a) bare
  bush_in (if_then_else s e a b) = bush (if_else_at s e) (bush_in a) (bush_in b)
  bush_in (while s e a) = bush (while_at s e) (bush_in a) bare
  bush_in (for s h a) = bush (for_at s h) (bush_in a) bare

  pub bush_in_all : Statements → Bush StatementLabel
  bush_in_all no_statements = bare
  bush_in_all (statement a rest) = bush statement_at (bush_in a) (bush_in_all rest)

abbrev statement_by : StatementLabel → Statement × Statements → Statement → Statement
statement_by (empty_at s) a b = empty s
statement_by (block_at s) a b = block s a.1
statement_by (declare_at s l) a b = declare s l
statement_by (simple_at s x) a b = simple s x
statement_by (jump_at s j) a b = jump s j
statement_by (return_at s e) a b = return s e
statement_by (if_at s e) a b = if_then s e a.0
statement_by (if_else_at s e) a b = if_then_else s e a.0 b
statement_by (while_at s e) a b = while s e a.0
statement_by (for_at s h) a b = for s h a.0
statement_by statement_at a b = empty no_span

abbrev pub from_bush_in : Bush StatementLabel → Statement × Statements
from_bush_in bare = (empty no_span, no_statements)
from_bush_in (bush l a b) =
    (statement_by l (from_bush_in a) (from_bush_in b).0, statement (from_bush_in a).0 (from_bush_in b).1)

mutual
  pub statement_back : (a : Statement) → (from_bush_in (bush_in a)).0 ≡ a
  statement_back (empty s) = refl
  statement_back (block s all) = ap (block s) (statements_back all)
  statement_back (declare s l) = refl
  statement_back (simple s x) = refl
  statement_back (jump s j) = refl
  statement_back (return s e) = refl
  statement_back (if_then s e a) = ap (if_then s e) (statement_back a)
  statement_back (if_then_else s e a b) = λ k. if_then_else s e (statement_back a k) (statement_back b k)
  statement_back (while s e a) = ap (while s e) (statement_back a)
  statement_back (for s h a) = ap (for s h) (statement_back a)

  pub statements_back : (all : Statements) → (from_bush_in (bush_in_all all)).1 ≡ all
  statements_back no_statements = refl
  statements_back (statement a rest) = λ k. statement (statement_back a k) (statements_back rest k)

abbrev pub coded_statements : Coded StatementLabel → Coded Statements
coded_statements c = code_by (Bush StatementLabel) (coded_bush c) bush_in_all (λ b. (from_bush_in b).1) statements_back
