-- No two calls of malloc begin at one token: so the objects that are made there are of one type.
use Rattle.sharc_accepted_laws.proofs.Imports.{◌≡◌, ℕ, ◌+◌, ◌<◌, ◌≤◌, ⊎_elim, Bool, true, false, List, [], ◌∷◌, ◌++◌, length, refl, sym, ap, ◌∙◌, subst, arith, length-append, Option, Some, None, Contains, eqb-true, filter_map-append, ◌==◌, IfSome, if◌then◌else◌, list_any, filter_map, flat_map, Span, Token, Declaration, WrittenType, Follow, IsWhole, point, option_spans, first_spans, head_spans, statement_spans, declaration_spans, item_spans, PlacedRight, PlacedSimple, PlacedLocal, PlacedFirst, PlacedStatement, PlacedStatements, PlacedItems, IsPlaced, span_of, span_of_right, span_of_simple, span_of_statement, Expression, parentheses, call, spawn, on_value, on_place, cast, index, field, unary, binary, Arguments, no_arguments, argument, Right, value, malloc, Simple, assign, does_call, Local, First, nothing, declares, does, Statement, empty, block, declare, simple, jump, return, if_then, if_then_else, while, for, Statements, no_statements, statement, Item, structure, global, function, Resolution, functions_in, named_at, Receiver, lvalue, variable, result, Transfer, gives, parameters_named, passed, transfers, argument_transfers, option_transfers as in_option, right_transfers, simple_transfers, local_transfers, first_transfers, statement_transfers, statements_transfers, function_transfers, made_at, types_made, head_or_tail, none_there, or_false as or_none}

-- ---- what begins at one token
-- at most one type, and if there is one, the token is one of these
record Within (token from until : ℕ) (list : List WrittenType) : Type 0 where
  once : length list ≤ 1
  low : 0 < length list → from ≤ token
  high : 0 < length list → token < until

within_none : (token from until : ℕ) → Within token from until []
within_none token from until = record { once = omega arith; low = λ h. absurd (omega (arith, h)); high = λ h. absurd (omega (arith, h)) }

within_one : (token from until : ℕ) (w : WrittenType) → from ≤ token → token < until → Within token from until (w ∷ [])
within_one token from until w low high = record { once = omega arith; low = λ _. low; high = λ _. high }

widened : (token from until more less : ℕ) (list : List WrittenType) → less ≤ from → until ≤ more → Within token from until list → Within token less more list
widened token from until more less list a b w = record { once = w.once; low = λ h. omega (arith, a, w.low h); high = λ h. omega (arith, b, w.high h) }

both : (token from mid until : ℕ) (a b : List WrittenType) → from ≤ mid → mid ≤ until → Within token from mid a → Within token mid until b → Within token from until (a ++ b)
both token from mid until [] b after before x y = widened token mid until until from b after (omega arith) y
both token from mid until (w ∷ a) [] after before x y =
    record { once = omega (arith, length-append (w ∷ a) [], x.once); low = λ h. x.low (omega arith); high = λ h. omega (arith, before, x.high (omega arith)) }
both token from mid until (w ∷ a) (v ∷ b) after before x y = absurd (omega (arith, x.high (omega arith), y.low (omega arith)))

-- ---- spans that follow one another
record InTwo (all : List Token) (from until : ℕ) (xs ys : List Span) : Type 0 where
  mid : ℕ
  after : from ≤ mid
  before : mid ≤ until
  first : Follow all from mid xs
  second : Follow all mid until ys

parts : (all : List Token) (from until : ℕ) (xs ys : List Span) → from ≤ until → Follow all from until (xs ++ ys) → InTwo all from until xs ys
parts all from until [] ys le f = record { mid = from; after = omega arith; before = le; first = tt; second = f }
parts all from until (x ∷ xs) ys le (span, low, high, follow) =
    let p = parts all (x.last.token + 1) until xs ys (omega (arith, high)) follow in
    record { mid = p.mid; after = omega (arith, low, span.order, p.after); before = p.before; first = (span, low, omega (arith, p.after), p.first); second = p.second }

module _ (r : Resolution) (token : ℕ) (all : List Token) where
  -- what the transfers of a piece of the program make at the token
  abbrev made : List Transfer → List WrittenType
  made l = filter_map (λ t. made_at token t.source) l

  made_both : (a b : List Transfer) → made (a ++ b) ≡ made a ++ made b
  made_both a b = filter_map-append (λ t. made_at token t.source) a b

  -- a piece at these spans makes these, wherever they are
  abbrev Piece : List Span → List WrittenType → Type 0
  Piece spans list = (from until : ℕ) → from ≤ until → Follow all from until spans → Within token from until list

  no_piece : (spans : List Span) (list : List WrittenType) → list ≡ [] → Piece spans list
  no_piece spans list none from until le f = subst (Within token from until) (sym none) (within_none token from until)

  joined : (xs ys : List Span) (a b : List WrittenType) → Piece xs a → Piece ys b → Piece (xs ++ ys) (a ++ b)
  joined xs ys a b x y from until le f =
      let p = parts all from until xs ys le f in
      both token from p.mid until a b p.after p.before (x from p.mid p.after p.first) (y p.mid until p.before p.second)

  whole : (s : Span) (spans : List Span) (list : List WrittenType) → IsWhole all s spans → Piece spans list → Piece (s ∷ []) list
  whole s spans list is p from until le (span, low, high, _) = widened token s.first.token (s.last.token + 1) until from list low (omega (arith, high)) (p s.first.token (s.last.token + 1) (omega (arith, span.order)) is.1)

  -- with a piece before it that makes none
  behind : (xs ys : List Span) (a b : List Transfer) → made a ≡ [] → Piece ys (made b) → Piece (xs ++ ys) (made (a ++ b))
  behind xs ys a b none p = subst (Piece (xs ++ ys)) (sym (made_both a b ∙ ap (λ z. z ++ made b) none)) (joined xs ys [] (made b) (no_piece xs [] refl) p)

  also : (xs ys : List Span) (a b : List Transfer) → Piece xs (made a) → Piece ys (made b) → Piece (xs ++ ys) (made (a ++ b))
  also xs ys a b p q = subst (Piece (xs ++ ys)) (sym (made_both a b)) (joined xs ys (made a) (made b) p q)

  append_none : (list : List WrittenType) → list ++ [] ≡ list
  append_none [] = refl
  append_none (w ∷ list) = ap (λ z. w ∷ z) (append_none list)

  first_alone : (a b : List Transfer) → made b ≡ [] → made (a ++ b) ≡ made a
  first_alone a b none = made_both a b ∙ ap (λ z. made a ++ z) none ∙ append_none (made a)

  none_both : (a b : List Transfer) → made a ≡ [] → made b ≡ [] → made (a ++ b) ≡ []
  none_both a b h k = first_alone a b k ∙ h

  -- ---- expressions make none
  passed_none : (ds : List Declaration) (args : Arguments) → made (passed ds args) ≡ []
  passed_none [] args = refl
  passed_none (d ∷ rest) no_arguments = refl
  passed_none (d ∷ rest) (argument a more) = passed_none rest more

  mutual
    none : (e : Expression) → made (transfers r e) ≡ []
    none (parentheses s a) = none a
    none (call s f args) = none_both (passed (parameters_named r (named_at r f.site.token)) args) (argument_transfers r args) (passed_none (parameters_named r (named_at r f.site.token)) args) (none_all args)
    none (spawn s f a) = none_both (passed (parameters_named r (named_at r f.site.token)) (argument a no_arguments)) (transfers r a) (passed_none (parameters_named r (named_at r f.site.token)) (argument a no_arguments)) (none a)
    none (on_value s w a) = none a
    none (on_place s w a) = none a
    none (cast s t a) = none a
    none (index s a i) = none_both (transfers r a) (transfers r i) (none a) (none i)
    none (field s a w n) = none a
    none (unary s o a) = none a
    none (binary s o at a b) = none_both (transfers r a) (transfers r b) (none a) (none b)
    none _ = refl

    none_all : (args : Arguments) → made (argument_transfers r args) ≡ []
    none_all no_arguments = refl
    none_all (argument a rest) = none_both (transfers r a) (argument_transfers r rest) (none a) (none_all rest)

  none_of : (e : Option Expression) → made (in_option (transfers r) e) ≡ []
  none_of None = refl
  none_of (Some e) = none e

  right_none : (x : Right) → made (right_transfers r x) ≡ []
  right_none (value e) = none e
  right_none (malloc s n w) = none_of n

  returned_none : (w : WrittenType) (e : Option Expression) → made (in_option (λ x. gives (result w) (value x) ++ transfers r x) e) ≡ []
  returned_none w None = refl
  returned_none w (Some e) = none e

  -- ---- what is given to something
  malloc_piece : (s : Span) (w : WrittenType) (b : Bool) → (s.first.token == token) ≡ b → Piece (s ∷ []) (filter_map (λ y. if y then Some w else None) (b ∷ []))
  malloc_piece s w false e = no_piece (s ∷ []) [] refl
  malloc_piece s w true e = λ from until le f.
      let same = eqb-true s.first.token token e in
      within_one token from until w (omega (arith, same, f.1)) (omega (arith, same, f.0.order, f.2))

  given : (to : Receiver) (x : Right) → PlacedRight all x → Piece (span_of_right x ∷ []) (made (gives to x))
  given to (value e) placed = no_piece (span_of e ∷ []) [] refl
  given to (malloc s n w) placed = malloc_piece s w (s.first.token == token) refl

  simple_piece : (x : Simple) → PlacedSimple all x → Piece (span_of_simple x ∷ []) (made (simple_transfers r x))
  simple_piece (assign s u x) placed =
      whole s (span_of u ∷ (span_of_right x ∷ [])) (made (simple_transfers r (assign s u x))) placed.0
      (subst (Piece (span_of u ∷ (span_of_right x ∷ [])))
      (sym (first_alone (gives (lvalue u) x ++ transfers r u) (right_transfers r x) (right_none x) ∙ first_alone (gives (lvalue u) x) (transfers r u) (none u)))
      (joined (span_of u ∷ []) (span_of_right x ∷ []) [] (made (gives (lvalue u) x)) (no_piece (span_of u ∷ []) [] refl) (given (lvalue u) x placed.2)))
  simple_piece (does_call e) placed = no_piece (span_of e ∷ []) (made (transfers r e)) (none e)

  initial_piece : (d : Declaration) (o : Option Right) → IfSome o (PlacedRight all) → Piece (d.span ∷ option_spans span_of_right o) (made (in_option (λ x. gives (variable d) x ++ right_transfers r x) o))
  initial_piece d None placed = no_piece (d.span ∷ []) [] refl
  initial_piece d (Some x) placed =
      subst (Piece (d.span ∷ (span_of_right x ∷ []))) (sym (first_alone (gives (variable d) x) (right_transfers r x) (right_none x)))
      (joined (d.span ∷ []) (span_of_right x ∷ []) [] (made (gives (variable d) x)) (no_piece (d.span ∷ []) [] refl) (given (variable d) x placed))

  local_piece : (l : Local) → PlacedLocal all l → Piece (l.span ∷ []) (made (local_transfers r l))
  local_piece l placed = whole l.span (l.declaration.span ∷ option_spans span_of_right l.initial) (made (local_transfers r l)) placed.0 (initial_piece l.declaration l.initial placed.2)

  first_piece : (x : First) → PlacedFirst all x → Piece (first_spans x) (made (first_transfers r x))
  first_piece nothing placed = no_piece [] [] refl
  first_piece (declares l) placed = local_piece l placed
  first_piece (does x) placed = simple_piece x placed

  step_piece : (x : Option Simple) → IfSome x (PlacedSimple all) → Piece (option_spans span_of_simple x) (made (in_option (simple_transfers r) x))
  step_piece None placed = no_piece [] [] refl
  step_piece (Some x) placed = simple_piece x placed

  mutual
    statement_piece : (w : WrittenType) (a : Statement) → PlacedStatement all a → Piece (span_of_statement a ∷ []) (made (statement_transfers r w a))
    statement_piece w (empty s) placed = no_piece (s ∷ []) [] refl
    statement_piece w (block s inner) placed = whole s (statement_spans inner) (made (statements_transfers r w inner)) placed.0 (statements_piece w inner placed.1)
    statement_piece w (declare s l) placed = whole s (l.span ∷ []) (made (local_transfers r l)) placed.0 (local_piece l placed.1)
    statement_piece w (simple s x) placed = whole s (span_of_simple x ∷ []) (made (simple_transfers r x)) placed.0 (simple_piece x placed.1)
    statement_piece w (jump s j) placed = no_piece (s ∷ []) [] refl
    statement_piece w (return s e) placed = no_piece (s ∷ []) (made (statement_transfers r w (return s e))) (returned_none w e)
    statement_piece w (if_then s e a) placed =
        whole s (span_of e ∷ (span_of_statement a ∷ [])) (made (statement_transfers r w (if_then s e a))) placed.0
        (behind (span_of e ∷ []) (span_of_statement a ∷ []) (transfers r e) (statement_transfers r w a) (none e) (statement_piece w a placed.2))
    statement_piece w (if_then_else s e a b) placed =
        whole s (span_of e ∷ (span_of_statement a ∷ (span_of_statement b ∷ []))) (made (statement_transfers r w (if_then_else s e a b))) placed.0
        (also (span_of e ∷ (span_of_statement a ∷ [])) (span_of_statement b ∷ []) (transfers r e ++ statement_transfers r w a) (statement_transfers r w b)
        (behind (span_of e ∷ []) (span_of_statement a ∷ []) (transfers r e) (statement_transfers r w a) (none e) (statement_piece w a placed.2)) (statement_piece w b placed.3))
    statement_piece w (while s e a) placed =
        whole s (span_of e ∷ (span_of_statement a ∷ [])) (made (statement_transfers r w (while s e a))) placed.0
        (behind (span_of e ∷ []) (span_of_statement a ∷ []) (transfers r e) (statement_transfers r w a) (none e) (statement_piece w a placed.2))
    statement_piece w (for s h a) placed =
        whole s (head_spans h ++ (span_of_statement a ∷ [])) (made (statement_transfers r w (for s h a))) placed.0
        (also (head_spans h) (span_of_statement a ∷ []) (first_transfers r h.first ++ in_option (transfers r) h.test ++ in_option (simple_transfers r) h.step) (statement_transfers r w a)
        (also (first_spans h.first ++ option_spans span_of h.test) (option_spans span_of_simple h.step) (first_transfers r h.first ++ in_option (transfers r) h.test) (in_option (simple_transfers r) h.step)
        (also (first_spans h.first) (option_spans span_of h.test) (first_transfers r h.first) (in_option (transfers r) h.test) (first_piece h.first placed.1.0)
        (no_piece (option_spans span_of h.test) (made (in_option (transfers r) h.test)) (none_of h.test))) (step_piece h.step placed.1.2)) (statement_piece w a placed.2))

    statements_piece : (w : WrittenType) (inner : Statements) → PlacedStatements all inner → Piece (statement_spans inner) (made (statements_transfers r w inner))
    statements_piece w no_statements placed = no_piece [] [] refl
    statements_piece w (statement a rest) placed = also (span_of_statement a ∷ []) (statement_spans rest) (statement_transfers r w a) (statements_transfers r w rest) (statement_piece w a placed.0) (statements_piece w rest placed.1)

  items_piece : (items : List Item) → PlacedItems all items → Piece (item_spans items) (made (flat_map (function_transfers r) (functions_in items)))
  items_piece [] placed = no_piece [] [] refl
  items_piece (structure s ∷ rest) placed = joined (s.span ∷ []) (item_spans rest) [] (made (flat_map (function_transfers r) (functions_in rest))) (no_piece (s.span ∷ []) [] refl) (items_piece rest placed.1)
  items_piece (global g ∷ rest) placed = joined (g.span ∷ []) (item_spans rest) [] (made (flat_map (function_transfers r) (functions_in rest))) (no_piece (g.span ∷ []) [] refl) (items_piece rest placed.1)
  items_piece (function f ∷ rest) placed =
      let own = made (function_transfers r f) in
      let body : Piece (f.body ∷ []) own = whole f.body (statement_spans f.statements) own placed.0.4 (statements_piece f.result f.statements placed.0.5) in
      let behind_parameters : Piece (declaration_spans f.parameters ++ (f.body ∷ [])) own = joined (declaration_spans f.parameters) (f.body ∷ []) [] own (no_piece (declaration_spans f.parameters) [] refl) body in
      let inside : Piece (f.result.span ∷ (point f.name.site ∷ (declaration_spans f.parameters ++ (f.body ∷ [])))) own =
      joined (f.result.span ∷ (point f.name.site ∷ [])) (declaration_spans f.parameters ++ (f.body ∷ [])) [] own (no_piece (f.result.span ∷ (point f.name.site ∷ [])) [] refl) behind_parameters in
      also (f.span ∷ []) (item_spans rest) (function_transfers r f) (flat_map (function_transfers r) (functions_in rest))
      (whole f.span (f.result.span ∷ (point f.name.site ∷ (declaration_spans f.parameters ++ (f.body ∷ [])))) own placed.0.0 inside) (items_piece rest placed.1)

-- ---- one type
only_one : (p : WrittenType → Bool) (list : List WrittenType) (w : WrittenType) → length list ≤ 1 → Contains list w → list_any p list ≡ p w
only_one p [] w once has = absurd (none_there w has)
only_one p (v ∷ []) w once has = ⊎_elim (λ (is : v ≡ w). or_none (p v) ∙ ap p is) (λ later. absurd (none_there w later)) (head_or_tail v w [] has)
only_one p (v ∷ u ∷ list) w once has = absurd (omega (arith, once))

-- what holds of some type that is made at a token holds of that which is
pub one_made : (r : Resolution) → IsPlaced r.program → (token : ℕ) (w : WrittenType) → Contains (types_made r token) w → (p : WrittenType → Bool) → list_any p (types_made r token) ≡ p w
one_made r placed token w has p =
    let all = r.program.tokens.list in
    only_one p (types_made r token) w (items_piece r token all r.program.items placed.items 0 (length all) (omega arith) placed.follow).once has
