-- The tokens that the walk lists of a tree are those of its names, in their order.
use Rattle.sharc_reach.proofs.Imports.{◌≡◌, ℕ, List, [], ◌∷◌, ◌++◌, Option, Some, None, refl, ap, sym, ◌∙◌, Mark, a_name, a_cast, type_marks, name_marks, declaration_marks, declarations_marks, marks, arguments_marks, option_marks, right_marks, simple_marks, local_marks, first_marks, head_marks, statement_marks, statements_marks, Expression, identifier, constant, parentheses, call, spawn, on_value, on_place, cast, index, field, unary, binary, Arguments, no_arguments, argument, Right, value, malloc, Simple, assign, does_call, Local, First, nothing, declares, does, Head, Statement, empty, block, declare, simple, jump, return, if_then, if_then_else, while, for, Statements, no_statements, statement, Function, name_tokens, tokens_of, Mention, names, mentions, mentions_of_all, option_mentions, right_mentions, simple_mentions, local_mentions, first_mentions, head_mentions, statement_mentions, statements_mentions, function_mentions}

-- the tokens of what is listed
abbrev pub tokens : List Mention → List ℕ
tokens [] = []
tokens (m ∷ rest) = m.token ∷ tokens rest

tokens_append : (a b : List Mention) → tokens (a ++ b) ≡ tokens a ++ tokens b
tokens_append [] b = refl
tokens_append (m ∷ a) b = ap (λ l. m.token ∷ l) (tokens_append a b)

name_tokens_append : (a b : List Mark) → name_tokens (a ++ b) ≡ name_tokens a ++ name_tokens b
name_tokens_append [] b = refl
name_tokens_append (a_name n text ∷ a) b = ap (λ l. n ∷ l) (name_tokens_append a b)
name_tokens_append (a_cast n ∷ a) b = name_tokens_append a b

both : (a b : List Mention) (c d : List Mark) → tokens a ≡ name_tokens c → tokens b ≡ name_tokens d → tokens (a ++ b) ≡ name_tokens (c ++ d)
both a b c d one two = tokens_append a b ∙ ap (λ l. l ++ tokens b) one ∙ ap (λ l. name_tokens c ++ l) two ∙ sym (name_tokens_append c d)

of_names : (n : ℕ) (c : List Mark) → tokens (names n c) ≡ name_tokens c
of_names n [] = refl
of_names n (a_name token text ∷ c) = ap (λ l. token ∷ l) (of_names n c)
of_names n (a_cast token ∷ c) = of_names n c

of_option : {A : Type 0} (f : A → List Mention) (g : A → List Mark) → ((x : A) → tokens (f x) ≡ name_tokens (g x)) → (o : Option A) → tokens (option_mentions f o) ≡ name_tokens (option_marks g o)
of_option f g each None = refl
of_option f g each (Some x) = each x

mutual
  of_expression : (n : ℕ) (e : Expression) → tokens (mentions n e) ≡ name_tokens (marks e)
  of_expression n (identifier s i) = refl
  of_expression n (constant s c) = refl
  of_expression n (parentheses s a) = of_expression n a
  of_expression n (call s f all) = ap (λ l. f.site.token ∷ l) (of_arguments n all)
  of_expression n (spawn s f a) = ap (λ l. f.site.token ∷ l) (of_expression n a)
  of_expression n (on_value s w a) = of_expression n a
  of_expression n (on_place s w a) = of_expression n a
  of_expression n (cast s t a) = both (names n (type_marks t)) (mentions n a) (type_marks t) (marks a) (of_names n (type_marks t)) (of_expression n a)
  of_expression n (index s a i) = both (mentions n a) (mentions n i) (marks a) (marks i) (of_expression n a) (of_expression n i)
  of_expression n (field s a w f) = both (mentions n a) (names n (name_marks f)) (marks a) (name_marks f) (of_expression n a) refl
  of_expression n (unary s o a) = of_expression n a
  of_expression n (binary s o at a b) = both (mentions n a) (mentions n b) (marks a) (marks b) (of_expression n a) (of_expression n b)

  of_arguments : (n : ℕ) (all : Arguments) → tokens (mentions_of_all n all) ≡ name_tokens (arguments_marks all)
  of_arguments n no_arguments = refl
  of_arguments n (argument a rest) = both (mentions n a) (mentions_of_all n rest) (marks a) (arguments_marks rest) (of_expression n a) (of_arguments n rest)

of_right : (n : ℕ) (x : Right) → tokens (right_mentions n x) ≡ name_tokens (right_marks x)
of_right n (value e) = of_expression n e
of_right n (malloc s count t) =
    both (option_mentions (mentions n) count) (names n (type_marks t)) (option_marks marks count) (type_marks t) (of_option (mentions n) marks (of_expression n) count) (of_names n (type_marks t))

of_simple : (n : ℕ) (x : Simple) → tokens (simple_mentions n x) ≡ name_tokens (simple_marks x)
of_simple n (assign s u r) = both (mentions n u) (right_mentions n r) (marks u) (right_marks r) (of_expression n u) (of_right n r)
of_simple n (does_call e) = of_expression n e

of_local : (n : ℕ) (x : Local) → tokens (local_mentions n x) ≡ name_tokens (local_marks x)
of_local n x =
    both (names n (declaration_marks x.declaration)) (option_mentions (right_mentions n) x.initial) (declaration_marks x.declaration) (option_marks right_marks x.initial)
    (of_names n (declaration_marks x.declaration)) (of_option (right_mentions n) right_marks (of_right n) x.initial)

of_first : (n : ℕ) (x : First) → tokens (first_mentions n x) ≡ name_tokens (first_marks x)
of_first n nothing = refl
of_first n (declares x) = of_local n x
of_first n (does x) = of_simple n x

of_head : (n : ℕ) (x : Head) → tokens (head_mentions n x) ≡ name_tokens (head_marks x)
of_head n x =
    both (first_mentions n x.first ++ option_mentions (mentions n) x.test) (option_mentions (simple_mentions n) x.step) (first_marks x.first ++ option_marks marks x.test) (option_marks simple_marks x.step)
    (both (first_mentions n x.first) (option_mentions (mentions n) x.test) (first_marks x.first) (option_marks marks x.test) (of_first n x.first) (of_option (mentions n) marks (of_expression n) x.test))
    (of_option (simple_mentions n) simple_marks (of_simple n) x.step)

mutual
  of_statement : (n : ℕ) (x : Statement) → tokens (statement_mentions n x) ≡ name_tokens (statement_marks x)
  of_statement n (empty s) = refl
  of_statement n (block s all) = of_statements n all
  of_statement n (declare s x) = of_local n x
  of_statement n (simple s x) = of_simple n x
  of_statement n (jump s j) = refl
  of_statement n (return s e) = of_option (mentions n) marks (of_expression n) e
  of_statement n (if_then s e a) = both (mentions n e) (statement_mentions n a) (marks e) (statement_marks a) (of_expression n e) (of_statement n a)
  of_statement n (if_then_else s e a b) =
      both (mentions n e ++ statement_mentions n a) (statement_mentions n b) (marks e ++ statement_marks a) (statement_marks b)
      (both (mentions n e) (statement_mentions n a) (marks e) (statement_marks a) (of_expression n e) (of_statement n a)) (of_statement n b)
  of_statement n (while s e a) = both (mentions n e) (statement_mentions n a) (marks e) (statement_marks a) (of_expression n e) (of_statement n a)
  of_statement n (for s h a) = both (head_mentions n h) (statement_mentions n a) (head_marks h) (statement_marks a) (of_head n h) (of_statement n a)

  of_statements : (n : ℕ) (all : Statements) → tokens (statements_mentions n all) ≡ name_tokens (statements_marks all)
  of_statements n no_statements = refl
  of_statements n (statement a rest) = both (statement_mentions n a) (statements_mentions n rest) (statement_marks a) (statements_marks rest) (of_statement n a) (of_statements n rest)

pub of_function : (n : ℕ) (f : Function) → tokens (function_mentions n f) ≡ tokens_of f
of_function n f =
    both ((names n (type_marks f.result) ++ names n (name_marks f.name)) ++ names n (declarations_marks f.parameters)) (statements_mentions n f.statements)
    ((type_marks f.result ++ name_marks f.name) ++ declarations_marks f.parameters) (statements_marks f.statements)
    (both (names n (type_marks f.result) ++ names n (name_marks f.name)) (names n (declarations_marks f.parameters)) (type_marks f.result ++ name_marks f.name) (declarations_marks f.parameters)
    (both (names n (type_marks f.result)) (names n (name_marks f.name)) (type_marks f.result) (name_marks f.name) (of_names n (type_marks f.result)) refl)
    (of_names n (declarations_marks f.parameters)))
    (of_statements n f.statements)
