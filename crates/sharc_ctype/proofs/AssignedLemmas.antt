-- What is assigned among all that is assigned, initialised, passed and returned is what is written left of an `=`.
use Rattle.sharc_ctype.proofs.Imports.{◌≡◌, ℕ, ◌||◌, ◌&&◌, not, List, [], ◌∷◌, ◌++◌, refl, ap, sym, ◌∙◌, Option, Some, None, or-false, list_any-append, list_any, ◌==◌, WrittenType, Declaration, Expression, identifier, constant, parentheses, call, spawn, on_value, on_place, cast, index, field, unary, binary, Arguments, no_arguments, argument, Right, value, malloc, Simple, assign, does_call, Local, First, nothing, declares, does, Statement, empty, block, declare, simple, jump, return, if_then, if_then_else, while, for, Statements, no_statements, statement, Item, structure, global, function, Resolution, functions_in, named_at, Transfer, passed, parameters_named, transfers, argument_transfers, in_option, right_transfers, simple_transfers, local_transfers, first_transfers, statement_transfers, statements_transfers, assigned, assigned_first, assigned_step, assigned_in, assigned_in_all, all_assigned, all_with_value, is_among, is_assigned_by, is_assigned_in, is_constant, HasConstants}

module _ (r : Resolution) (token : ℕ) where
  -- these transfers assign the variable exactly where it is among those tokens
  abbrev Same : List Transfer → List ℕ → Type 0
  Same all tokens = list_any (is_assigned_by r token) all ≡ is_among token tokens

  two : (a b : List Transfer) (x y : List ℕ) → Same a x → Same b y → Same (a ++ b) (x ++ y)
  two a b x y p q =
      list_any-append (is_assigned_by r token) a b
      ∙ ap (λ c. c || list_any (is_assigned_by r token) b) p
      ∙ ap (λ c. is_among token x || c) q
      ∙ sym (list_any-append (λ z. token == z) x y)

  none : (a b : List Transfer) → Same a [] → Same b [] → Same (a ++ b) []
  none a b p q = two a b [] [] p q

  passing : (list : List Declaration) (all : Arguments) → Same (passed list all) []
  passing [] all = refl
  passing (d ∷ rest) no_arguments = refl
  passing (d ∷ rest) (argument a more) = passing rest more

  mutual
    in_expression : (e : Expression) → Same (transfers r e) []
    in_expression (identifier s i) = refl
    in_expression (constant s c) = refl
    in_expression (parentheses s a) = in_expression a
    in_expression (call s f all) = none (passed (parameters_named r (named_at r f.site.token)) all) (argument_transfers r all) (passing (parameters_named r (named_at r f.site.token)) all) (in_all all)
    in_expression (spawn s f a) = none (passed (parameters_named r (named_at r f.site.token)) (argument a no_arguments)) (transfers r a) (passing (parameters_named r (named_at r f.site.token)) (argument a no_arguments)) (in_expression a)
    in_expression (on_value s w a) = in_expression a
    in_expression (on_place s w a) = in_expression a
    in_expression (cast s t a) = in_expression a
    in_expression (index s a i) = none (transfers r a) (transfers r i) (in_expression a) (in_expression i)
    in_expression (field s a w n) = in_expression a
    in_expression (unary s o a) = in_expression a
    in_expression (binary s o at a b) = none (transfers r a) (transfers r b) (in_expression a) (in_expression b)

    in_all : (all : Arguments) → Same (argument_transfers r all) []
    in_all no_arguments = refl
    in_all (argument a rest) = none (transfers r a) (argument_transfers r rest) (in_expression a) (in_all rest)

  in_optional : (e : Option Expression) → Same (in_option (transfers r) e) []
  in_optional None = refl
  in_optional (Some e) = in_expression e

  in_right : (x : Right) → Same (right_transfers r x) []
  in_right (value e) = in_expression e
  in_right (malloc s n w) = in_optional n

  in_simple : (x : Simple) → Same (simple_transfers r x) (assigned r.named x)
  in_simple (assign s u x) = ap (λ c. is_among token (assigned r.named (assign s u x)) || c) (none (transfers r u) (right_transfers r x) (in_expression u) (in_right x)) ∙ or-false _
  in_simple (does_call e) = in_expression e

  initialiser : (d : Declaration) (x : Option Right) → Same (local_transfers r (record { span = d.span; declaration = d; initial = x })) []
  initialiser d None = refl
  initialiser d (Some x) = in_right x

  in_local : (l : Local) → Same (local_transfers r l) []
  in_local l = initialiser l.declaration l.initial

  in_first : (f : First) → Same (first_transfers r f) (assigned_first r.named f)
  in_first nothing = refl
  in_first (declares l) = in_local l
  in_first (does x) = in_simple x

  in_step : (x : Option Simple) → Same (in_option (simple_transfers r) x) (assigned_step r.named x)
  in_step None = refl
  in_step (Some x) = in_simple x

  at_end : (all : List Transfer) (x : List ℕ) → Same all (x ++ []) → Same all x
  at_end all x p = p ∙ list_any-append (λ z. token == z) x [] ∙ or-false (is_among token x)

  mutual
    in_statement : (w : WrittenType) (a : Statement) → Same (statement_transfers r w a) (assigned_in r.named a)
    in_statement w (empty s) = refl
    in_statement w (block s all) = in_statements w all
    in_statement w (declare s l) = in_local l
    in_statement w (simple s x) = in_simple x
    in_statement w (jump s j) = refl
    in_statement w (return s None) = refl
    in_statement w (return s (Some e)) = in_expression e
    in_statement w (if_then s e a) = two (transfers r e) (statement_transfers r w a) [] (assigned_in r.named a) (in_expression e) (in_statement w a)
    in_statement w (if_then_else s e a b) =
        two (transfers r e ++ statement_transfers r w a) (statement_transfers r w b) (assigned_in r.named a) (assigned_in r.named b)
        (two (transfers r e) (statement_transfers r w a) [] (assigned_in r.named a) (in_expression e) (in_statement w a)) (in_statement w b)
    in_statement w (while s e a) = two (transfers r e) (statement_transfers r w a) [] (assigned_in r.named a) (in_expression e) (in_statement w a)
    in_statement w (for s h a) =
        let first = first_transfers r h.first in
        let test = in_option (transfers r) h.test in
        let step = in_option (simple_transfers r) h.step in
        let before = assigned_first r.named h.first in
        let begun : Same (first ++ test) before = at_end (first ++ test) before (two first test before [] (in_first h.first) (in_optional h.test)) in
        two ((first ++ test) ++ step) (statement_transfers r w a) (before ++ assigned_step r.named h.step) (assigned_in r.named a)
        (two (first ++ test) step before (assigned_step r.named h.step) begun (in_step h.step)) (in_statement w a)

    in_statements : (w : WrittenType) (all : Statements) → Same (statements_transfers r w all) (assigned_in_all r.named all)
    in_statements w no_statements = refl
    in_statements w (statement a rest) = two (statement_transfers r w a) (statements_transfers r w rest) (assigned_in r.named a) (assigned_in_all r.named rest) (in_statement w a) (in_statements w rest)

  in_items : (items : List Item) → list_any (is_assigned_in r token) (functions_in items) ≡ is_among token (all_assigned r.named items)
  in_items [] = refl
  in_items (structure s ∷ rest) = in_items rest
  in_items (global g ∷ rest) = in_items rest
  in_items (function f ∷ rest) =
      ap (λ c. c || list_any (is_assigned_in r token) (functions_in rest)) (in_statements f.result f.statements)
      ∙ ap (λ c. is_among token (assigned_in_all r.named f.statements) || c) (in_items rest)
      ∙ sym (list_any-append (λ z. token == z) (assigned_in_all r.named f.statements) (all_assigned r.named rest))

  -- the table shows whether a variable is constant
  pub table_tells : (tokens : List ℕ) → HasConstants r.named r.program.items tokens → is_among token tokens ≡ is_constant r token
  table_tells tokens has = has token ∙ ap (λ c. is_among token (all_with_value r.program.items) && not c) (sym (in_items r.program.items))
