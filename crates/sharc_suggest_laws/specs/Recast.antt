-- A program with a cast written round an expression.
use Rattle.std.specs.Prelude.{◌==◌, Bool, false, ◌&&◌, map, if◌then◌else◌, option_map}
use Rattle.sharc_tree.specs.{declared.token.Span.Span, declared.tree.declaration.WrittenType.WrittenType, Spans.span_of}
use Rattle.sharc_tree.specs.Tree.{Expression, identifier, constant, parentheses, call, spawn, on_value, on_place, cast}
use Rattle.sharc_tree.specs.Tree.{index, field, unary, binary, Arguments, no_arguments, argument, Right, value, malloc}
use Rattle.sharc_tree.specs.Tree.{Simple, assign, does_call, Local, First, nothing, declares, does, Head, Statement}
use Rattle.sharc_tree.specs.Tree.{Statements, no_statements, statement, Function, Item, structure, global, function}
use Rattle.sharc_tree.specs.Tree.{Program}
use Rattle.sharc_tree.specs.Tree as tree
use Rattle.sharc_suggest_laws.specs.declared.written.Recast.{Recast}

-- its type is at the tokens of the expression: no token is added
abbrev pub type_at : Recast → Span → WrittenType
type_at c s = record { span = s; mode_first = false; base = c.base; ctype = c.to }

-- the expression has these tokens
abbrev pub is_there : Recast → Expression → Bool
is_there c e = (span_of e).first.token == c.from && (span_of e).last.token == c.until

-- the cast round the expression of these tokens, and any other as it is
abbrev pub around : Recast → Expression → Expression
around c e = if is_there c e then cast (span_of e) (type_at c (span_of e)) e else e

-- The cast is written where a value is passed, assigned or returned, or where it initialises a local.

abbrev mutual
  pub with_cast : Recast → Expression → Expression
  with_cast c (identifier s i) = identifier s i
  with_cast c (constant s k) = constant s k
  with_cast c (parentheses s a) = parentheses s (with_cast c a)
  with_cast c (call s f all) = call s f (all_with_cast c all)
  with_cast c (spawn s f a) = spawn s f (around c (with_cast c a))
  with_cast c (on_value s w a) = on_value s w (with_cast c a)
  with_cast c (on_place s w a) = on_place s w (with_cast c a)
  with_cast c (cast s t a) = cast s t (with_cast c a)
  with_cast c (index s a i) = index s (with_cast c a) (with_cast c i)
  with_cast c (field s a w n) = field s (with_cast c a) w n
  with_cast c (unary s o a) = unary s o (with_cast c a)
  with_cast c (binary s o at a b) = binary s o at (with_cast c a) (with_cast c b)

  pub all_with_cast : Recast → Arguments → Arguments
  all_with_cast c no_arguments = no_arguments
  all_with_cast c (argument a rest) = argument (around c (with_cast c a)) (all_with_cast c rest)

abbrev pub right_with_cast : Recast → Right → Right
right_with_cast c (value e) = value (around c (with_cast c e))
right_with_cast c (malloc s n t) = malloc s (option_map (with_cast c) n) t

abbrev pub simple_with_cast : Recast → Simple → Simple
simple_with_cast c (assign s u x) = assign s (with_cast c u) (right_with_cast c x)
simple_with_cast c (does_call e) = does_call (with_cast c e)

abbrev pub local_with_cast : Recast → Local → Local
local_with_cast c l =
    record { span = l.span; declaration = l.declaration; initial = option_map (right_with_cast c) l.initial }

abbrev pub first_with_cast : Recast → First → First
first_with_cast c nothing = nothing
first_with_cast c (declares l) = declares (local_with_cast c l)
first_with_cast c (does x) = does (simple_with_cast c x)

abbrev pub head_with_cast : Recast → Head → Head
head_with_cast c h = record {
  first = first_with_cast c h.first;
  test = option_map (with_cast c) h.test;
  step = option_map (simple_with_cast c) h.step;
}

abbrev mutual
  pub statement_with_cast : Recast → Statement → Statement
  statement_with_cast c (tree.empty s) = tree.empty s
  statement_with_cast c (tree.block s all) = tree.block s (statements_with_cast c all)
  statement_with_cast c (tree.declare s l) = tree.declare s (local_with_cast c l)
  statement_with_cast c (tree.simple s x) = tree.simple s (simple_with_cast c x)
  statement_with_cast c (tree.jump s j) = tree.jump s j
  statement_with_cast c (tree.return s e) = tree.return s (option_map (λ a. around c (with_cast c a)) e)
  statement_with_cast c (tree.if_then s e a) = tree.if_then s (with_cast c e) (statement_with_cast c a)
  statement_with_cast c (tree.if_then_else s e a b) =
      tree.if_then_else s (with_cast c e) (statement_with_cast c a) (statement_with_cast c b)
  statement_with_cast c (tree.while s e a) = tree.while s (with_cast c e) (statement_with_cast c a)
  statement_with_cast c (tree.for s h a) = tree.for s (head_with_cast c h) (statement_with_cast c a)

  pub statements_with_cast : Recast → Statements → Statements
  statements_with_cast c no_statements = no_statements
  statements_with_cast c (statement a rest) = statement (statement_with_cast c a) (statements_with_cast c rest)

abbrev pub function_with_cast : Recast → Function → Function
function_with_cast c f = record {
  span = f.span;
  result = f.result;
  name = f.name;
  parameters = f.parameters;
  body = f.body;
  statements = statements_with_cast c f.statements;
}

abbrev pub item_with_cast : Recast → Item → Item
item_with_cast c (structure s) = structure s
item_with_cast c (global g) = global g
item_with_cast c (function f) = function (function_with_cast c f)

abbrev pub program_with_cast : Recast → Program → Program
program_with_cast c p = record { files = p.files; items = map (item_with_cast c) p.items; tokens = p.tokens }
