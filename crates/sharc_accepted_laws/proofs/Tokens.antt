-- The tokens of the names in the expressions of a function are among the tokens of the function.
use Rattle.sharc_accepted_laws.proofs.Imports.{◌≡◌, ℕ, List, [], ◌∷◌, ◌++◌, refl, ap, sym, subst, Option, Some, None, Contains, left_there, right_there, AllByRecursion, Mark, a_name, type_marks, name_marks, declaration_marks, declarations_marks, marks, arguments_marks, option_marks, right_marks, simple_marks, local_marks, first_marks, head_marks, statement_marks, statements_marks, expressions, in_arguments, in_option, in_right, in_simple, in_local, in_first, in_head, in_statement, in_statements, in_function, Expression, Arguments, no_arguments, argument, Right, value, malloc, Simple, assign, does_call, Local, First, nothing, declares, does, Head, Statement, Statements, no_statements, statement, Function, name_tokens, tokens_of, both, head_there}
use Rattle.sharc_tree.specs.Marks.{a_cast}
use Rattle.sharc_tree.specs.Tree as tree

split : (a b : List Mark) → name_tokens (a ++ b) ≡ name_tokens a ++ name_tokens b
split [] b = refl
split (a_name n text ∷ rest) b = ap (λ list. n ∷ list) (split rest b)
split (a_cast n ∷ rest) b = split rest b

module _ (all : List ℕ) where
  -- the tokens of these names are among them
  abbrev Within : List Mark → Type 0
  Within list = (t : ℕ) → Contains (name_tokens list) t → Contains all t

  fore : (a b : List Mark) → Within (a ++ b) → Within a
  fore a b h t has = h t (subst (λ list. Contains list t) (sym (split a b)) (left_there (name_tokens a) (name_tokens b) t has))

  aft : (a b : List Mark) → Within (a ++ b) → Within b
  aft a b h t has = h t (subst (λ list. Contains list t) (sym (split a b)) (right_there (name_tokens a) (name_tokens b) t has))

  abbrev pub Named : Expression → Type 0
  Named (tree.identifier s i) = Contains all i.site.token
  Named _ = Unit {0}

  abbrev AllNamed : List Expression → Type 0
  AllNamed list = AllByRecursion Named list

  mutual
    of_expression : (e : Expression) → Within (marks e) → AllNamed (expressions e)
    of_expression (tree.identifier s i) h = (h i.site.token (head_there i.site.token []), tt)
    of_expression (tree.constant s c) h = (tt, tt)
    of_expression (tree.parentheses s a) h = (tt, of_expression a h)
    of_expression (tree.call s f x) h = (tt, of_arguments x (aft (name_marks f) (arguments_marks x) h))
    of_expression (tree.spawn s f a) h = (tt, of_expression a (aft (name_marks f) (marks a) h))
    of_expression (tree.on_value s w a) h = (tt, of_expression a h)
    of_expression (tree.on_place s w a) h = (tt, of_expression a h)
    of_expression (tree.cast s t a) h = (tt, of_expression a (aft (type_marks t) (marks a) h))
    of_expression (tree.index s a i) h = (tt, both Named (expressions a) (expressions i) (of_expression a (fore (marks a) (marks i) h)) (of_expression i (aft (marks a) (marks i) h)))
    of_expression (tree.field s a w n) h = (tt, of_expression a (fore (marks a) (name_marks n) h))
    of_expression (tree.unary s o a) h = (tt, of_expression a h)
    of_expression (tree.binary s o at a b) h = (tt, both Named (expressions a) (expressions b) (of_expression a (fore (marks a) (marks b) h)) (of_expression b (aft (marks a) (marks b) h)))

    of_arguments : (x : Arguments) → Within (arguments_marks x) → AllNamed (in_arguments x)
    of_arguments no_arguments h = tt
    of_arguments (argument a rest) h = both Named (expressions a) (in_arguments rest) (of_expression a (fore (marks a) (arguments_marks rest) h)) (of_arguments rest (aft (marks a) (arguments_marks rest) h))

  of_option : (o : Option Expression) → Within (option_marks marks o) → AllNamed (in_option expressions o)
  of_option None h = tt
  of_option (Some e) h = of_expression e h

  of_right : (x : Right) → Within (right_marks x) → AllNamed (in_right x)
  of_right (value e) h = of_expression e h
  of_right (malloc s n t) h = of_option n (fore (option_marks marks n) (type_marks t) h)

  of_simple : (x : Simple) → Within (simple_marks x) → AllNamed (in_simple x)
  of_simple (assign s u x) h = both Named (expressions u) (in_right x) (of_expression u (fore (marks u) (right_marks x) h)) (of_right x (aft (marks u) (right_marks x) h))
  of_simple (does_call e) h = of_expression e h

  of_step : (o : Option Simple) → Within (option_marks simple_marks o) → AllNamed (in_option in_simple o)
  of_step None h = tt
  of_step (Some x) h = of_simple x h

  of_initial : (o : Option Right) → Within (option_marks right_marks o) → AllNamed (in_option in_right o)
  of_initial None h = tt
  of_initial (Some x) h = of_right x h

  of_local : (l : Local) → Within (local_marks l) → AllNamed (in_local l)
  of_local l h = of_initial l.initial (aft (declaration_marks l.declaration) (option_marks right_marks l.initial) h)

  of_first : (x : First) → Within (first_marks x) → AllNamed (in_first x)
  of_first nothing h = tt
  of_first (declares l) h = of_local l h
  of_first (does x) h = of_simple x h

  of_head : (x : Head) → Within (head_marks x) → AllNamed (in_head x)
  of_head x h =
      let a = first_marks x.first in
      let b = option_marks marks x.test in
      let c = option_marks simple_marks x.step in
      both Named (in_first x.first ++ in_option expressions x.test) (in_option in_simple x.step)
      (both Named (in_first x.first) (in_option expressions x.test) (of_first x.first (fore a b (fore (a ++ b) c h))) (of_option x.test (aft a b (fore (a ++ b) c h))))
      (of_step x.step (aft (a ++ b) c h))

  mutual
    of_statement : (a : Statement) → Within (statement_marks a) → AllNamed (in_statement a)
    of_statement (tree.block s list) h = of_statements list h
    of_statement (tree.declare s l) h = of_local l h
    of_statement (tree.simple s x) h = of_simple x h
    of_statement (tree.return s e) h = of_option e h
    of_statement (tree.if_then s e a) h = both Named (expressions e) (in_statement a) (of_expression e (fore (marks e) (statement_marks a) h)) (of_statement a (aft (marks e) (statement_marks a) h))
    of_statement (tree.if_then_else s e a b) h =
        let left = fore (marks e ++ statement_marks a) (statement_marks b) h in
        both Named (expressions e ++ in_statement a) (in_statement b)
        (both Named (expressions e) (in_statement a) (of_expression e (fore (marks e) (statement_marks a) left)) (of_statement a (aft (marks e) (statement_marks a) left)))
        (of_statement b (aft (marks e ++ statement_marks a) (statement_marks b) h))
    of_statement (tree.while s e a) h = both Named (expressions e) (in_statement a) (of_expression e (fore (marks e) (statement_marks a) h)) (of_statement a (aft (marks e) (statement_marks a) h))
    of_statement (tree.for s x a) h = both Named (in_head x) (in_statement a) (of_head x (fore (head_marks x) (statement_marks a) h)) (of_statement a (aft (head_marks x) (statement_marks a) h))
    of_statement _ h = tt

    of_statements : (list : Statements) → Within (statements_marks list) → AllNamed (in_statements list)
    of_statements no_statements h = tt
    of_statements (statement a rest) h = both Named (in_statement a) (in_statements rest) (of_statement a (fore (statement_marks a) (statements_marks rest) h)) (of_statements rest (aft (statement_marks a) (statements_marks rest) h))

pub names_among : (f : Function) → AllByRecursion (Named (tokens_of f)) (in_function f)
names_among f =
    of_statements (tokens_of f) f.statements
    (aft (tokens_of f) (type_marks f.result ++ name_marks f.name ++ declarations_marks f.parameters) (statements_marks f.statements) (λ t has. has))
