-- What is in a function makes what its mallocs make: the list of what is assigned and initialised has them all, and other values make nothing.
use Rattle.sharc_meaning_tests.proofs.Imports.{◌≡◌, ℕ, Bool, true, false, ◌||◌, ◌&&◌, List, [], ◌∷◌, ◌++◌, Option, Some, None, refl, ap, sym, subst, ◌∙◌, filter_map-append, list_any-append, ◌==◌, filter_map, flat_map, if◌then◌else◌, list_any, Object, Made, SourceEvent, Declaration, WrittenType, Expression, parentheses, call, spawn, on_value, on_place, cast, index, field, unary, binary, Arguments, no_arguments, argument, Right, value, malloc, Simple, assign, does_call, Local, First, nothing, declares, does, Head, Statement, empty, block, declare, simple, jump, return, if_then, if_then_else, while, for, Statements, no_statements, statement, Item, structure, global, function, Resolution, named_at, functions_in, Receiver, lvalue, variable, result, Transfer, gives, parameters_named, passed, transfers, argument_transfers, in_option, right_transfers, simple_transfers, local_transfers, first_transfers, statement_transfers, statements_transfers, function_transfers, latest, makes as makes_object, is_pointer_in, is_pointer_of, is_pointer_of_made, made_at, right_makes, simple_makes, initial_makes, first_makes, step_makes, head_makes, statement_makes, statements_make, item_makes, items_make}

module _ (r : Resolution) (token cell : ℕ) where
  abbrev makes : List Transfer → Bool
  makes l = list_any (λ w. is_pointer_in r w cell) (filter_map (λ t. made_at token t.source) l)

  both : (a b : List Transfer) → makes (a ++ b) ≡ (makes a || makes b)
  both a b = ap (list_any (λ w. is_pointer_in r w cell)) (filter_map-append (λ t. made_at token t.source) a b)
      ∙ list_any-append (λ w. is_pointer_in r w cell) (filter_map (λ t. made_at token t.source) a) (filter_map (λ t. made_at token t.source) b)

  or_none : (a b : Bool) → b ≡ false → (a || b) ≡ a
  or_none true b h = refl
  or_none false b h = h

  neither : (a b : Bool) → a ≡ false → b ≡ false → (a || b) ≡ false
  neither a b h k = or_none a b k ∙ h

  none_both : (a b : List Transfer) → makes a ≡ false → makes b ≡ false → makes (a ++ b) ≡ false
  none_both a b h k = both a b ∙ neither (makes a) (makes b) h k

  same_both : (a b : List Transfer) (x y : Bool) → makes a ≡ x → makes b ≡ y → makes (a ++ b) ≡ (x || y)
  same_both a b x y h k = both a b ∙ ap (λ z. z || makes b) h ∙ ap (λ z. x || z) k

  first_alone : (a b : List Transfer) (x : Bool) → makes a ≡ x → makes b ≡ false → makes (a ++ b) ≡ x
  first_alone a b x h k = both a b ∙ or_none (makes a) (makes b) k ∙ h

  second_alone : (a b : List Transfer) (y : Bool) → makes a ≡ false → makes b ≡ y → makes (a ++ b) ≡ y
  second_alone a b y h k = both a b ∙ ap (λ z. z || makes b) h ∙ k

  gives_is : (to : Receiver) (x : Right) → makes (gives to x) ≡ right_makes r token cell x
  gives_is to (value e) = refl
  gives_is to (malloc s n w) = by_case (s.first.token == token)
    where
      by_case : (b : Bool) → list_any (λ w. is_pointer_in r w cell) (filter_map (λ y. if y then Some w else None) (b ∷ [])) ≡ (b && is_pointer_in r w cell)
      by_case true = or_none (is_pointer_in r w cell) false refl
      by_case false = refl

  passed_none : (ds : List Declaration) (all : Arguments) → makes (passed ds all) ≡ false
  passed_none [] all = refl
  passed_none (d ∷ rest) no_arguments = refl
  passed_none (d ∷ rest) (argument a more) = passed_none rest more

  mutual
    none : (e : Expression) → makes (transfers r e) ≡ false
    none (parentheses s a) = none a
    none (call s f all) = none_both (passed (parameters_named r (named_at r f.site.token)) all) (argument_transfers r all) (passed_none (parameters_named r (named_at r f.site.token)) all) (none_all all)
    none (spawn s f a) = none_both (passed (parameters_named r (named_at r f.site.token)) (argument a no_arguments)) (transfers r a) (passed_none (parameters_named r (named_at r f.site.token)) (argument a no_arguments)) (none a)
    none (on_value s w a) = none a
    none (on_place s w a) = none a
    none (cast s t a) = none a
    none (index s a i) = none_both (transfers r a) (transfers r i) (none a) (none i)
    none (field s a w n) = none a
    none (unary s o a) = none a
    none (binary s o at a b) = none_both (transfers r a) (transfers r b) (none a) (none b)
    none _ = refl

    none_all : (all : Arguments) → makes (argument_transfers r all) ≡ false
    none_all no_arguments = refl
    none_all (argument a rest) = none_both (transfers r a) (argument_transfers r rest) (none a) (none_all rest)

  none_of : (e : Option Expression) → makes (in_option (transfers r) e) ≡ false
  none_of None = refl
  none_of (Some e) = none e

  right_none : (x : Right) → makes (right_transfers r x) ≡ false
  right_none (value e) = none e
  right_none (malloc s n w) = none_of n

  simple_is : (x : Simple) → makes (simple_transfers r x) ≡ simple_makes r token cell x
  simple_is (assign s u x) = first_alone (gives (lvalue u) x ++ transfers r u) (right_transfers r x) (right_makes r token cell x)
      (first_alone (gives (lvalue u) x) (transfers r u) (right_makes r token cell x) (gives_is (lvalue u) x) (none u)) (right_none x)
  simple_is (does_call e) = none e

  local_by : (l : Local) (o : Option Right) → makes (in_option (λ x. gives (variable l.declaration) x ++ right_transfers r x) o) ≡ initial_makes r token cell o
  local_by l None = refl
  local_by l (Some x) = first_alone (gives (variable l.declaration) x) (right_transfers r x) (right_makes r token cell x) (gives_is (variable l.declaration) x) (right_none x)

  local_is : (l : Local) → makes (local_transfers r l) ≡ initial_makes r token cell l.initial
  local_is l = local_by l l.initial

  first_is : (x : First) → makes (first_transfers r x) ≡ first_makes r token cell x
  first_is nothing = refl
  first_is (declares l) = local_is l
  first_is (does x) = simple_is x

  step_is : (x : Option Simple) → makes (in_option (simple_transfers r) x) ≡ step_makes r token cell x
  step_is None = refl
  step_is (Some x) = simple_is x

  returned_is : (w : WrittenType) (e : Option Expression) → makes (in_option (λ x. gives (result w) (value x) ++ transfers r x) e) ≡ false
  returned_is w None = refl
  returned_is w (Some e) = none e

  mutual
    statement_is : (w : WrittenType) (a : Statement) → makes (statement_transfers r w a) ≡ statement_makes r token cell a
    statement_is w (empty s) = refl
    statement_is w (block s all) = statements_are w all
    statement_is w (declare s l) = local_is l
    statement_is w (simple s x) = simple_is x
    statement_is w (jump s j) = refl
    statement_is w (return s e) = returned_is w e
    statement_is w (if_then s e a) = second_alone (transfers r e) (statement_transfers r w a) (statement_makes r token cell a) (none e) (statement_is w a)
    statement_is w (if_then_else s e a b) = same_both (transfers r e ++ statement_transfers r w a) (statement_transfers r w b) (statement_makes r token cell a) (statement_makes r token cell b)
        (second_alone (transfers r e) (statement_transfers r w a) (statement_makes r token cell a) (none e) (statement_is w a)) (statement_is w b)
    statement_is w (while s e a) = second_alone (transfers r e) (statement_transfers r w a) (statement_makes r token cell a) (none e) (statement_is w a)
    statement_is w (for s h a) = same_both (first_transfers r h.first ++ in_option (transfers r) h.test ++ in_option (simple_transfers r) h.step) (statement_transfers r w a) (head_makes r token cell h) (statement_makes r token cell a)
        (same_both (first_transfers r h.first ++ in_option (transfers r) h.test) (in_option (simple_transfers r) h.step) (first_makes r token cell h.first) (step_makes r token cell h.step)
        (first_alone (first_transfers r h.first) (in_option (transfers r) h.test) (first_makes r token cell h.first) (first_is h.first) (none_of h.test)) (step_is h.step)) (statement_is w a)

    statements_are : (w : WrittenType) (all : Statements) → makes (statements_transfers r w all) ≡ statements_make r token cell all
    statements_are w no_statements = refl
    statements_are w (statement a rest) = same_both (statement_transfers r w a) (statements_transfers r w rest) (statement_makes r token cell a) (statements_make r token cell rest) (statement_is w a) (statements_are w rest)

  pub items_are : (items : List Item) → list_any (λ w. is_pointer_in r w cell) (filter_map (λ t. made_at token t.source) (flat_map (function_transfers r) (functions_in items))) ≡ items_make r token cell items
  items_are [] = refl
  items_are (structure s ∷ rest) = items_are rest
  items_are (global g ∷ rest) = items_are rest
  items_are (function f ∷ rest) = same_both (function_transfers r f) (flat_map (function_transfers r) (functions_in rest)) (statements_make r token cell f.statements) (items_make r token cell rest) (statements_are f.result f.statements) (items_are rest)

-- the pointers of a made object are those that the malloc of its last New makes
pub of_made : (r : Resolution) (R : List SourceEvent) (o : Object) (k cell : ℕ) (l : Option SourceEvent) → o ≡ Made k → l ≡ latest (makes_object o) R → is_pointer_of_made r l cell ≡ is_pointer_of r R o cell
of_made r R o k cell l is at =
    subst (λ z. l ≡ latest (makes_object z) R → is_pointer_of_made r l cell ≡ is_pointer_of r R z cell) (sym is) (λ same. ap (λ z. is_pointer_of_made r z cell) same) at
