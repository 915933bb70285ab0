-- How many of the expressions that are passed, assigned or returned, or initialise a local, meet a test: one clause for
-- each production.
use Rattle.std.specs.Prelude.{ℕ, ◌+◌, ◌==◌, ◌≤◌, Bool, true, false, List, [], ◌∷◌, Option, Some, None}
use Rattle.sharc_tree.specs.{Placed.IsPlaced, Spans.span_of}
use Rattle.sharc_tree.specs.Tree.{Expression, identifier, constant, parentheses, call, spawn, on_value, on_place, cast}
use Rattle.sharc_tree.specs.Tree.{index, field, unary, binary, Arguments, no_arguments, argument, Right, value, malloc}
use Rattle.sharc_tree.specs.Tree.{Simple, assign, does_call, Local, First, nothing, declares, does, Head, Statement}
use Rattle.sharc_tree.specs.Tree.{Statements, no_statements, statement, Item, structure, global, function, Program}
use Rattle.sharc_tree.specs.Tree as tree

abbrev pub count_of : Bool → ℕ
count_of true = 1
count_of false = 0

-- this one
abbrev pub met_by : (Expression → Bool) → Expression → ℕ
met_by test e = count_of (test e)

-- those below it
abbrev mutual
  pub met_inside : (Expression → Bool) → Expression → ℕ
  met_inside test (identifier s i) = 0
  met_inside test (constant s k) = 0
  met_inside test (parentheses s a) = met_inside test a
  met_inside test (call s f all) = met_inside_all test all
  met_inside test (spawn s f a) = met_inside test a + met_by test a
  met_inside test (on_value s w a) = met_inside test a
  met_inside test (on_place s w a) = met_inside test a
  met_inside test (cast s t a) = met_inside test a
  met_inside test (index s a i) = met_inside test a + met_inside test i
  met_inside test (field s a w n) = met_inside test a
  met_inside test (unary s o a) = met_inside test a
  met_inside test (binary s o at a b) = met_inside test a + met_inside test b

  pub met_inside_all : (Expression → Bool) → Arguments → ℕ
  met_inside_all test no_arguments = 0
  met_inside_all test (argument a rest) = met_inside test a + met_by test a + met_inside_all test rest

-- those below it, and it
abbrev pub met_at : (Expression → Bool) → Expression → ℕ
met_at test e = met_inside test e + met_by test e

abbrev pub of_option : {A : Type 0} → (A → ℕ) → Option A → ℕ
of_option f None = 0
of_option f (Some x) = f x

abbrev pub met_in_right : (Expression → Bool) → Right → ℕ
met_in_right test (value e) = met_at test e
met_in_right test (malloc s n t) = of_option (met_inside test) n

abbrev pub met_in_simple : (Expression → Bool) → Simple → ℕ
met_in_simple test (assign s u x) = met_inside test u + met_in_right test x
met_in_simple test (does_call e) = met_inside test e

abbrev pub met_in_local : (Expression → Bool) → Local → ℕ
met_in_local test l = of_option (met_in_right test) l.initial

abbrev pub met_in_first : (Expression → Bool) → First → ℕ
met_in_first test nothing = 0
met_in_first test (declares l) = met_in_local test l
met_in_first test (does x) = met_in_simple test x

abbrev pub met_in_head : (Expression → Bool) → Head → ℕ
met_in_head test h =
    met_in_first test h.first + of_option (met_inside test) h.test + of_option (met_in_simple test) h.step

abbrev mutual
  pub met_in_statement : (Expression → Bool) → Statement → ℕ
  met_in_statement test (tree.empty s) = 0
  met_in_statement test (tree.block s all) = met_in_statements test all
  met_in_statement test (tree.declare s l) = met_in_local test l
  met_in_statement test (tree.simple s x) = met_in_simple test x
  met_in_statement test (tree.jump s j) = 0
  met_in_statement test (tree.return s e) = of_option (met_at test) e
  met_in_statement test (tree.if_then s e a) = met_inside test e + met_in_statement test a
  met_in_statement test (tree.if_then_else s e a b) =
      met_inside test e + met_in_statement test a + met_in_statement test b
  met_in_statement test (tree.while s e a) = met_inside test e + met_in_statement test a
  met_in_statement test (tree.for s h a) = met_in_head test h + met_in_statement test a

  pub met_in_statements : (Expression → Bool) → Statements → ℕ
  met_in_statements test no_statements = 0
  met_in_statements test (statement a rest) = met_in_statement test a + met_in_statements test rest

abbrev pub met_in_item : (Expression → Bool) → Item → ℕ
met_in_item test (structure s) = 0
met_in_item test (global g) = 0
met_in_item test (function f) = met_in_statements test f.statements

abbrev pub met_in_items : (Expression → Bool) → List Item → ℕ
met_in_items test [] = 0
met_in_items test (i ∷ rest) = met_in_item test i + met_in_items test rest

-- ---- in a program at its tokens no two of them begin at one token

abbrev pub begins_at : ℕ → Expression → Bool
begins_at token e = (span_of e).first.token == token

abbrev pub ValuesBeginApart : Type 0
ValuesBeginApart = (p : Program) → IsPlaced p → (token : ℕ) → met_in_items (begins_at token) p.items ≤ 1
