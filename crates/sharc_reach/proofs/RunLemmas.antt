-- The names that the walk lists as called or spawned are those that the expressions of the function call or spawn.
use Rattle.sharc_reach.proofs.Imports.{◌≡◌, ℕ, List, [], ◌∷◌, ◌++◌, Option, Some, None, refl, ap, sym, ◌∙◌, append_assoc, append-nil, Mark, a_name, a_cast, type_marks, name_marks, declaration_marks, declarations_marks, expressions, in_arguments, in_option, in_right, in_simple, in_local, in_first, in_head, in_statement, in_statements, in_function, Expression, identifier, constant, parentheses, call, spawn, on_value, on_place, cast, index, field, unary, binary, Arguments, no_arguments, argument, Right, value, malloc, Simple, assign, does_call, Local, First, nothing, declares, does, Head, Statement, empty, block, declare, simple, jump, return, if_then, if_then_else, while, for, Statements, no_statements, statement, Function, runs, spawns, of_all, Mention, NameUse, Called, Spawned, names, mentions, mentions_of_all, option_mentions, right_mentions, simple_mentions, local_mentions, first_mentions, head_mentions, statement_mentions, statements_mentions, function_mentions}
use Rattle.sharc_reach.specs.declared.mention.NameUse.TheVariants.{Named}

-- the tokens of those whose roles count
abbrev pub told : (NameUse → ℕ → List ℕ) → List Mention → List ℕ
told f [] = []
told f (m ∷ rest) = f m.role m.token ++ told f rest

abbrev pub picks : (NameUse → ℕ → List ℕ) → Expression → List ℕ
picks f (call s i all) = f Called i.site.token
picks f (spawn s i a) = f Spawned i.site.token
picks f _ = []

of_all_append : (f : Expression → List ℕ) (a b : List Expression) → of_all f (a ++ b) ≡ of_all f a ++ of_all f b
of_all_append f [] b = refl
of_all_append f (e ∷ a) b = ap (λ l. f e ++ l) (of_all_append f a b) ∙ sym (append_assoc (f e) (of_all f a) (of_all f b))

told_append : (f : NameUse → ℕ → List ℕ) (a b : List Mention) → told f (a ++ b) ≡ told f a ++ told f b
told_append f [] b = refl
told_append f (m ∷ a) b = ap (λ l. f m.role m.token ++ l) (told_append f a b) ∙ sym (append_assoc (f m.role m.token) (told f a) (told f b))

module _ (f : NameUse → ℕ → List ℕ) (quiet : (token : ℕ) → f Named token ≡ []) where
  both : (a b : List Mention) (c d : List Expression) → told f a ≡ of_all (picks f) c → told f b ≡ of_all (picks f) d → told f (a ++ b) ≡ of_all (picks f) (c ++ d)
  both a b c d one two = told_append f a b ∙ ap (λ l. l ++ told f b) one ∙ ap (λ l. of_all (picks f) c ++ l) two ∙ sym (of_all_append (picks f) c d)

  quiet_names : (n : ℕ) (c : List Mark) → told f (names n c) ≡ []
  quiet_names n [] = refl
  quiet_names n (a_name token text ∷ c) = ap (λ l. l ++ told f (names n c)) (quiet token) ∙ quiet_names n c
  quiet_names n (a_cast token ∷ c) = quiet_names n c

  behind_names : (n : ℕ) (c : List Mark) (b : List Mention) → told f (names n c ++ b) ≡ told f b
  behind_names n c b = told_append f (names n c) b ∙ ap (λ l. l ++ told f b) (quiet_names n c)

  before_names : (n : ℕ) (a : List Mention) (c : List Mark) → told f (a ++ names n c) ≡ told f a
  before_names n a c = told_append f a (names n c) ∙ ap (λ l. told f a ++ l) (quiet_names n c) ∙ append-nil (told f a)

  run_option : {A : Type 0} (g : A → List Mention) (h : A → List Expression) → ((x : A) → told f (g x) ≡ of_all (picks f) (h x)) → (o : Option A) → told f (option_mentions g o) ≡ of_all (picks f) (in_option h o)
  run_option g h each None = refl
  run_option g h each (Some x) = each x

  mutual
    run_expression : (n : ℕ) (e : Expression) → told f (mentions n e) ≡ of_all (picks f) (expressions e)
    run_expression n (identifier s i) = ap (λ l. l ++ []) (quiet i.site.token)
    run_expression n (constant s c) = refl
    run_expression n (parentheses s a) = run_expression n a
    run_expression n (call s i all) = ap (λ l. f Called i.site.token ++ l) (run_arguments n all)
    run_expression n (spawn s i a) = ap (λ l. f Spawned i.site.token ++ l) (run_expression n a)
    run_expression n (on_value s w a) = run_expression n a
    run_expression n (on_place s w a) = run_expression n a
    run_expression n (cast s t a) = behind_names n (type_marks t) (mentions n a) ∙ run_expression n a
    run_expression n (index s a i) = both (mentions n a) (mentions n i) (expressions a) (expressions i) (run_expression n a) (run_expression n i)
    run_expression n (field s a w i) = before_names n (mentions n a) (name_marks i) ∙ run_expression n a
    run_expression n (unary s o a) = run_expression n a
    run_expression n (binary s o at a b) = both (mentions n a) (mentions n b) (expressions a) (expressions b) (run_expression n a) (run_expression n b)

    run_arguments : (n : ℕ) (all : Arguments) → told f (mentions_of_all n all) ≡ of_all (picks f) (in_arguments all)
    run_arguments n no_arguments = refl
    run_arguments n (argument a rest) = both (mentions n a) (mentions_of_all n rest) (expressions a) (in_arguments rest) (run_expression n a) (run_arguments n rest)

  run_right : (n : ℕ) (x : Right) → told f (right_mentions n x) ≡ of_all (picks f) (in_right x)
  run_right n (value e) = run_expression n e
  run_right n (malloc s count t) = before_names n (option_mentions (mentions n) count) (type_marks t) ∙ run_option (mentions n) expressions (run_expression n) count

  run_simple : (n : ℕ) (x : Simple) → told f (simple_mentions n x) ≡ of_all (picks f) (in_simple x)
  run_simple n (assign s u r) = both (mentions n u) (right_mentions n r) (expressions u) (in_right r) (run_expression n u) (run_right n r)
  run_simple n (does_call e) = run_expression n e

  run_local : (n : ℕ) (x : Local) → told f (local_mentions n x) ≡ of_all (picks f) (in_local x)
  run_local n x = behind_names n (declaration_marks x.declaration) (option_mentions (right_mentions n) x.initial) ∙ run_option (right_mentions n) in_right (run_right n) x.initial

  run_first : (n : ℕ) (x : First) → told f (first_mentions n x) ≡ of_all (picks f) (in_first x)
  run_first n nothing = refl
  run_first n (declares x) = run_local n x
  run_first n (does x) = run_simple n x

  run_head : (n : ℕ) (x : Head) → told f (head_mentions n x) ≡ of_all (picks f) (in_head x)
  run_head n x =
      both (first_mentions n x.first ++ option_mentions (mentions n) x.test) (option_mentions (simple_mentions n) x.step) (in_first x.first ++ in_option expressions x.test) (in_option in_simple x.step)
      (both (first_mentions n x.first) (option_mentions (mentions n) x.test) (in_first x.first) (in_option expressions x.test) (run_first n x.first) (run_option (mentions n) expressions (run_expression n) x.test))
      (run_option (simple_mentions n) in_simple (run_simple n) x.step)

  mutual
    run_statement : (n : ℕ) (x : Statement) → told f (statement_mentions n x) ≡ of_all (picks f) (in_statement x)
    run_statement n (empty s) = refl
    run_statement n (block s all) = run_statements n all
    run_statement n (declare s x) = run_local n x
    run_statement n (simple s x) = run_simple n x
    run_statement n (jump s j) = refl
    run_statement n (return s e) = run_option (mentions n) expressions (run_expression n) e
    run_statement n (if_then s e a) = both (mentions n e) (statement_mentions n a) (expressions e) (in_statement a) (run_expression n e) (run_statement n a)
    run_statement n (if_then_else s e a b) =
        both (mentions n e ++ statement_mentions n a) (statement_mentions n b) (expressions e ++ in_statement a) (in_statement b)
        (both (mentions n e) (statement_mentions n a) (expressions e) (in_statement a) (run_expression n e) (run_statement n a)) (run_statement n b)
    run_statement n (while s e a) = both (mentions n e) (statement_mentions n a) (expressions e) (in_statement a) (run_expression n e) (run_statement n a)
    run_statement n (for s h a) = both (head_mentions n h) (statement_mentions n a) (in_head h) (in_statement a) (run_head n h) (run_statement n a)

    run_statements : (n : ℕ) (all : Statements) → told f (statements_mentions n all) ≡ of_all (picks f) (in_statements all)
    run_statements n no_statements = refl
    run_statements n (statement a rest) = both (statement_mentions n a) (statements_mentions n rest) (in_statement a) (in_statements rest) (run_statement n a) (run_statements n rest)

  quiet_both : (a b : List Mention) → told f a ≡ [] → told f b ≡ [] → told f (a ++ b) ≡ []
  quiet_both a b one two = told_append f a b ∙ ap (λ l. l ++ told f b) one ∙ two

  pub run_function : (n : ℕ) (g : Function) → told f (function_mentions n g) ≡ of_all (picks f) (in_function g)
  run_function n g =
      let result = names n (type_marks g.result) in
      let name = names n (name_marks g.name) in
      let parameters = names n (declarations_marks g.parameters) in
      told_append f ((result ++ name) ++ parameters) (statements_mentions n g.statements)
      ∙ ap (λ l. l ++ told f (statements_mentions n g.statements)) (quiet_both (result ++ name) parameters (quiet_both result name (quiet_names n (type_marks g.result)) (quiet_names n (name_marks g.name))) (quiet_names n (declarations_marks g.parameters)))
      ∙ run_statements n g.statements

-- those that are called or spawned, and those that are spawned
abbrev pub ran_token : NameUse → ℕ → List ℕ
ran_token Named token = []
ran_token Called token = token ∷ []
ran_token Spawned token = token ∷ []

abbrev pub spawned_token : NameUse → ℕ → List ℕ
spawned_token Named token = []
spawned_token Called token = []
spawned_token Spawned token = token ∷ []

same_runs : (e : Expression) → picks ran_token e ≡ runs e
same_runs (call s i all) = refl
same_runs (spawn s i a) = refl
same_runs _ = refl

same_spawns : (e : Expression) → picks spawned_token e ≡ spawns e
same_spawns (call s i all) = refl
same_spawns (spawn s i a) = refl
same_spawns _ = refl

of_same : (f g : Expression → List ℕ) → ((e : Expression) → f e ≡ g e) → (all : List Expression) → of_all f all ≡ of_all g all
of_same f g each [] = refl
of_same f g each (e ∷ all) = ap (λ l. l ++ of_all f all) (each e) ∙ ap (λ l. g e ++ l) (of_same f g each all)

pub function_runs : (n : ℕ) (g : Function) → told ran_token (function_mentions n g) ≡ of_all runs (in_function g)
function_runs n g = run_function ran_token (λ token. refl) n g ∙ of_same (picks ran_token) runs same_runs (in_function g)

pub function_spawns : (n : ℕ) (g : Function) → told spawned_token (function_mentions n g) ≡ of_all spawns (in_function g)
function_spawns n g = run_function spawned_token (λ token. refl) n g ∙ of_same (picks spawned_token) spawns same_spawns (in_function g)
