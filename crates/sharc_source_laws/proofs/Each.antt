-- What is so of the constants of a function, by recursion over the tree, is so of each constant among its expressions.
use Rattle.sharc_source_laws.proofs.Imports.{List, ◌++◌, Option, Some, None, AllByRecursion, of_each, place_of_element, expressions, in_arguments, in_option, in_right, in_simple, in_first, in_head, in_statement, in_statements, in_function, Expression, parentheses, spawn, on_value, on_place, cast, Arguments, no_arguments, argument, Right, Simple, does_call, First, Head, Statement, declare, simple, if_then, if_then_else, while, for, Statements, no_statements, statement, functions_in, IsHeld, HeldIn, HeldInAll, HeldInOption, HeldInRight, HeldInSimple, HeldInInitial, HeldInFirst, HeldInStep, HeldInHead, HeldInStatement, HeldInStatements, ConstantsAreHeld, EachConstantIsHeld, both}
use Rattle.sharc_tree.specs.Tree.{identifier, constant, call, index, field, unary, binary, value, malloc, assign, nothing, declares, does, block, return}

-- ---- what is said of each expression
abbrev IsSelfHeld : Expression → Type 0
IsSelfHeld (constant s k) = IsHeld k
IsSelfHeld _ = Unit {0}

abbrev AreSelfHeld : List Expression → Type 0
AreSelfHeld list = AllByRecursion IsSelfHeld list

pair : (a b : List Expression) → AreSelfHeld a → AreSelfHeld b → AreSelfHeld (a ++ b)
pair a b = both IsSelfHeld a b

mutual
  in_each : (e : Expression) → HeldIn e → AreSelfHeld (expressions e)
  in_each (identifier s i) h = (tt, tt)
  in_each (constant s k) h = (h, tt)
  in_each (parentheses s a) h = (tt, in_each a h)
  in_each (call s f all) h = (tt, in_all all h)
  in_each (spawn s f a) h = (tt, in_each a h)
  in_each (on_value s w a) h = (tt, in_each a h)
  in_each (on_place s w a) h = (tt, in_each a h)
  in_each (cast s t a) h = (tt, in_each a h)
  in_each (index s a i) h = (tt, pair (expressions a) (expressions i) (in_each a h.0) (in_each i h.1))
  in_each (field s a w n) h = (tt, in_each a h)
  in_each (unary s o a) h = (tt, in_each a h)
  in_each (binary s o at a b) h = (tt, pair (expressions a) (expressions b) (in_each a h.0) (in_each b h.1))

  in_all : (all : Arguments) → HeldInAll all → AreSelfHeld (in_arguments all)
  in_all no_arguments h = tt
  in_all (argument a rest) h = pair (expressions a) (in_arguments rest) (in_each a h.0) (in_all rest h.1)

of_option : (e : Option Expression) → HeldInOption e → AreSelfHeld (in_option expressions e)
of_option None h = tt
of_option (Some e) h = in_each e h

of_right : (x : Right) → HeldInRight x → AreSelfHeld (in_right x)
of_right (value e) h = in_each e h
of_right (malloc s n t) h = of_option n h

of_simple : (x : Simple) → HeldInSimple x → AreSelfHeld (in_simple x)
of_simple (assign s u x) h = pair (expressions u) (in_right x) (in_each u h.0) (of_right x h.1)
of_simple (does_call e) h = in_each e h

of_initial : (x : Option Right) → HeldInInitial x → AreSelfHeld (in_option in_right x)
of_initial None h = tt
of_initial (Some x) h = of_right x h

of_first : (x : First) → HeldInFirst x → AreSelfHeld (in_first x)
of_first nothing h = tt
of_first (declares l) h = of_initial l.initial h
of_first (does x) h = of_simple x h

of_step : (x : Option Simple) → HeldInStep x → AreSelfHeld (in_option in_simple x)
of_step None h = tt
of_step (Some x) h = of_simple x h

of_head : (x : Head) → HeldInHead x → AreSelfHeld (in_head x)
of_head x h = pair (in_first x.first ++ in_option expressions x.test) (in_option in_simple x.step) (pair (in_first x.first) (in_option expressions x.test) (of_first x.first h.0) (of_option x.test h.1)) (of_step x.step h.2)

mutual
  of_statement : (a : Statement) → HeldInStatement a → AreSelfHeld (in_statement a)
  of_statement (block s all) h = of_statements all h
  of_statement (declare s l) h = of_initial l.initial h
  of_statement (simple s x) h = of_simple x h
  of_statement (return s e) h = of_option e h
  of_statement (if_then s e a) h = pair (expressions e) (in_statement a) (in_each e h.0) (of_statement a h.1)
  of_statement (if_then_else s e a b) h = pair (expressions e ++ in_statement a) (in_statement b) (pair (expressions e) (in_statement a) (in_each e h.0) (of_statement a h.1)) (of_statement b h.2)
  of_statement (while s e a) h = pair (expressions e) (in_statement a) (in_each e h.0) (of_statement a h.1)
  of_statement (for s x a) h = pair (in_head x) (in_statement a) (of_head x h.0) (of_statement a h.1)
  of_statement _ h = tt

  of_statements : (all : Statements) → HeldInStatements all → AreSelfHeld (in_statements all)
  of_statements no_statements h = tt
  of_statements (statement a rest) h = pair (in_statement a) (in_statements rest) (of_statement a h.0) (of_statements rest h.1)

-- so of the constants among the expressions of each function
pub each_held : ConstantsAreHeld → EachConstantIsHeld
each_held held source tokens p read reads f stands s k inside =
    let at = place_of_element (functions_in p.items) f stands in
    of_each IsSelfHeld (in_function f) (constant s k) (of_statements f.statements (held source tokens p read reads at.0 f at.1)) inside
