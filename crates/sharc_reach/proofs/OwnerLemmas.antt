-- Each name that the walk lists of a function has that function's number.
use Rattle.sharc_reach.proofs.Imports.{◌≡◌, ℕ, List, [], ◌∷◌, ◌++◌, Option, Some, None, refl, Mark, a_name, a_cast, type_marks, name_marks, declaration_marks, declarations_marks, Expression, identifier, constant, parentheses, call, spawn, on_value, on_place, cast, index, field, unary, binary, Arguments, no_arguments, argument, Right, value, malloc, Simple, assign, does_call, Local, First, nothing, declares, does, Head, Statement, empty, block, declare, simple, jump, return, if_then, if_then_else, while, for, Statements, no_statements, statement, Function, Mention, names, mentions, mentions_of_all, option_mentions, right_mentions, simple_mentions, local_mentions, first_mentions, head_mentions, statement_mentions, statements_mentions, function_mentions}

abbrev pub Owned : ℕ → List Mention → Type 0
Owned n [] = Unit {0}
Owned n (m ∷ rest) = (m.function ≡ n) × Owned n rest

both : (n : ℕ) (a b : List Mention) → Owned n a → Owned n b → Owned n (a ++ b)
both n [] b one two = two
both n (m ∷ a) b one two = (one.0, both n a b one.1 two)

own_names : (n : ℕ) (c : List Mark) → Owned n (names n c)
own_names n [] = tt
own_names n (a_name token text ∷ c) = (refl, own_names n c)
own_names n (a_cast token ∷ c) = own_names n c

own_option : {A : Type 0} (n : ℕ) (f : A → List Mention) → ((x : A) → Owned n (f x)) → (o : Option A) → Owned n (option_mentions f o)
own_option n f each None = tt
own_option n f each (Some x) = each x

mutual
  own_expression : (n : ℕ) (e : Expression) → Owned n (mentions n e)
  own_expression n (identifier s i) = (refl, tt)
  own_expression n (constant s c) = tt
  own_expression n (parentheses s a) = own_expression n a
  own_expression n (call s f all) = (refl, own_arguments n all)
  own_expression n (spawn s f a) = (refl, own_expression n a)
  own_expression n (on_value s w a) = own_expression n a
  own_expression n (on_place s w a) = own_expression n a
  own_expression n (cast s t a) = both n (names n (type_marks t)) (mentions n a) (own_names n (type_marks t)) (own_expression n a)
  own_expression n (index s a i) = both n (mentions n a) (mentions n i) (own_expression n a) (own_expression n i)
  own_expression n (field s a w f) = both n (mentions n a) (names n (name_marks f)) (own_expression n a) (refl, tt)
  own_expression n (unary s o a) = own_expression n a
  own_expression n (binary s o at a b) = both n (mentions n a) (mentions n b) (own_expression n a) (own_expression n b)

  own_arguments : (n : ℕ) (all : Arguments) → Owned n (mentions_of_all n all)
  own_arguments n no_arguments = tt
  own_arguments n (argument a rest) = both n (mentions n a) (mentions_of_all n rest) (own_expression n a) (own_arguments n rest)

own_right : (n : ℕ) (x : Right) → Owned n (right_mentions n x)
own_right n (value e) = own_expression n e
own_right n (malloc s count t) = both n (option_mentions (mentions n) count) (names n (type_marks t)) (own_option n (mentions n) (own_expression n) count) (own_names n (type_marks t))

own_simple : (n : ℕ) (x : Simple) → Owned n (simple_mentions n x)
own_simple n (assign s u r) = both n (mentions n u) (right_mentions n r) (own_expression n u) (own_right n r)
own_simple n (does_call e) = own_expression n e

own_local : (n : ℕ) (x : Local) → Owned n (local_mentions n x)
own_local n x = both n (names n (declaration_marks x.declaration)) (option_mentions (right_mentions n) x.initial) (own_names n (declaration_marks x.declaration)) (own_option n (right_mentions n) (own_right n) x.initial)

own_first : (n : ℕ) (x : First) → Owned n (first_mentions n x)
own_first n nothing = tt
own_first n (declares x) = own_local n x
own_first n (does x) = own_simple n x

own_head : (n : ℕ) (x : Head) → Owned n (head_mentions n x)
own_head n x =
    both n (first_mentions n x.first ++ option_mentions (mentions n) x.test) (option_mentions (simple_mentions n) x.step)
    (both n (first_mentions n x.first) (option_mentions (mentions n) x.test) (own_first n x.first) (own_option n (mentions n) (own_expression n) x.test))
    (own_option n (simple_mentions n) (own_simple n) x.step)

mutual
  own_statement : (n : ℕ) (x : Statement) → Owned n (statement_mentions n x)
  own_statement n (empty s) = tt
  own_statement n (block s all) = own_statements n all
  own_statement n (declare s x) = own_local n x
  own_statement n (simple s x) = own_simple n x
  own_statement n (jump s j) = tt
  own_statement n (return s e) = own_option n (mentions n) (own_expression n) e
  own_statement n (if_then s e a) = both n (mentions n e) (statement_mentions n a) (own_expression n e) (own_statement n a)
  own_statement n (if_then_else s e a b) =
      both n (mentions n e ++ statement_mentions n a) (statement_mentions n b) (both n (mentions n e) (statement_mentions n a) (own_expression n e) (own_statement n a)) (own_statement n b)
  own_statement n (while s e a) = both n (mentions n e) (statement_mentions n a) (own_expression n e) (own_statement n a)
  own_statement n (for s h a) = both n (head_mentions n h) (statement_mentions n a) (own_head n h) (own_statement n a)

  own_statements : (n : ℕ) (all : Statements) → Owned n (statements_mentions n all)
  own_statements n no_statements = tt
  own_statements n (statement a rest) = both n (statement_mentions n a) (statements_mentions n rest) (own_statement n a) (own_statements n rest)

pub own_function : (n : ℕ) (f : Function) → Owned n (function_mentions n f)
own_function n f =
    both n ((names n (type_marks f.result) ++ names n (name_marks f.name)) ++ names n (declarations_marks f.parameters)) (statements_mentions n f.statements)
    (both n (names n (type_marks f.result) ++ names n (name_marks f.name)) (names n (declarations_marks f.parameters))
    (both n (names n (type_marks f.result)) (names n (name_marks f.name)) (own_names n (type_marks f.result)) (refl, tt))
    (own_names n (declarations_marks f.parameters)))
    (own_statements n f.statements)
