-- How high an expression is, how deep statements nest, and which expressions a function has.
use Rattle.std.specs.Prelude.{ℕ, ◌+◌, max, List, [], ◌∷◌, ◌++◌, Option, Some, None}
use Rattle.sharc_tree.specs.Tree.{Expression, identifier, constant, parentheses, call, spawn, on_value, on_place, cast}
use Rattle.sharc_tree.specs.Tree.{index, field, unary, binary, Arguments, no_arguments, argument, Right, value, malloc}
use Rattle.sharc_tree.specs.Tree.{Simple, assign, does_call, Local, First, nothing, declares, does, Head, Statement}
use Rattle.sharc_tree.specs.Tree.{empty, block, declare, simple, jump, return, if_then, if_then_else, while, for}
use Rattle.sharc_tree.specs.Tree.{Statements, no_statements, statement, Function}

-- operators, indexes, fields, calls, casts and parentheses on the longest way down
abbrev mutual
  pub height : Expression → ℕ
  height (identifier s i) = 0
  height (constant s c) = 0
  height (parentheses s a) = height a + 1
  height (call s f all) = highest all + 1
  height (spawn s f a) = height a + 1
  height (on_value s w a) = height a + 1
  height (on_place s w a) = height a + 1
  height (cast s t a) = height a + 1
  height (index s a i) = max (height a) (height i) + 1
  height (field s a w n) = height a + 1
  height (unary s o a) = height a + 1
  height (binary s o at a b) = max (height a) (height b) + 1

  pub highest : Arguments → ℕ
  highest no_arguments = 0
  highest (argument a rest) = max (height a) (highest rest)

-- statements on the longest way in; a declaration is not one
abbrev mutual
  pub nesting : Statement → ℕ
  nesting (declare s l) = 0
  nesting (empty s) = 1
  nesting (simple s x) = 1
  nesting (jump s j) = 1
  nesting (return s e) = 1
  nesting (block s all) = deepest all + 1
  nesting (if_then s e a) = nesting a + 1
  nesting (if_then_else s e a b) = max (nesting a) (nesting b) + 1
  nesting (while s e a) = nesting a + 1
  nesting (for s h a) = nesting a + 1

  pub deepest : Statements → ℕ
  deepest no_statements = 0
  deepest (statement a rest) = max (nesting a) (deepest rest)

-- the body of a function is itself a statement
abbrev pub nesting_of : Function → ℕ
nesting_of f = deepest f.statements + 1

-- an expression and all below it, by their first tokens, the outer before the inner
abbrev mutual
  pub expressions : Expression → List Expression
  expressions (identifier s i) = identifier s i ∷ []
  expressions (constant s c) = constant s c ∷ []
  expressions (parentheses s a) = parentheses s a ∷ expressions a
  expressions (call s f all) = call s f all ∷ in_arguments all
  expressions (spawn s f a) = spawn s f a ∷ expressions a
  expressions (on_value s w a) = on_value s w a ∷ expressions a
  expressions (on_place s w a) = on_place s w a ∷ expressions a
  expressions (cast s t a) = cast s t a ∷ expressions a
  expressions (index s a i) = index s a i ∷ (expressions a ++ expressions i)
  expressions (field s a w n) = field s a w n ∷ expressions a
  expressions (unary s o a) = unary s o a ∷ expressions a
  expressions (binary s o at a b) = binary s o at a b ∷ (expressions a ++ expressions b)

  pub in_arguments : Arguments → List Expression
  in_arguments no_arguments = []
  in_arguments (argument a rest) = expressions a ++ in_arguments rest

abbrev pub in_option : {A : Type 0} → (A → List Expression) → Option A → List Expression
in_option f None = []
in_option f (Some x) = f x

abbrev pub in_right : Right → List Expression
in_right (value e) = expressions e
in_right (malloc s n t) = in_option expressions n

abbrev pub in_simple : Simple → List Expression
in_simple (assign s u r) = expressions u ++ in_right r
in_simple (does_call e) = expressions e

abbrev pub in_local : Local → List Expression
in_local l = in_option in_right l.initial

abbrev pub in_first : First → List Expression
in_first nothing = []
in_first (declares l) = in_local l
in_first (does x) = in_simple x

abbrev pub in_head : Head → List Expression
in_head h = in_first h.first ++ in_option expressions h.test ++ in_option in_simple h.step

abbrev mutual
  pub in_statement : Statement → List Expression
  in_statement (empty s) = []
  in_statement (block s all) = in_statements all
  in_statement (declare s l) = in_local l
  in_statement (simple s x) = in_simple x
  in_statement (jump s j) = []
  in_statement (return s e) = in_option expressions e
  in_statement (if_then s e a) = expressions e ++ in_statement a
  in_statement (if_then_else s e a b) = expressions e ++ in_statement a ++ in_statement b
  in_statement (while s e a) = expressions e ++ in_statement a
  in_statement (for s h a) = in_head h ++ in_statement a

  pub in_statements : Statements → List Expression
  in_statements no_statements = []
  in_statements (statement a rest) = in_statement a ++ in_statements rest

-- all expressions of a function in source order
abbrev pub in_function : Function → List Expression
in_function f = in_statements f.statements
