-- What holds of all that a function transfers holds of what its calls pass and of what its locals begin with.
use Rattle.sharc_accepted_laws.proofs.Imports.{◌≡◌, subst, List, [], ◌++◌, Option, Some, None, AllByRecursion, Declaration, WrittenType, expressions, in_arguments, in_right, in_simple, in_local, in_first, in_head, in_statement, in_statements, in_function, Expression, Arguments, no_arguments, argument, Right, value, malloc, Simple, assign, does_call, Local, First, nothing, declares, does, Statement, Statements, no_statements, statement, Function, Resolution, named_at, Transfer, gives, variable, lvalue, passed, parameters_named, transfers, argument_transfers, option_transfers as in_option, right_transfers, simple_transfers, local_transfers, first_transfers, statement_transfers, statements_transfers, function_transfers, locals_in_first, locals_in, front, back, both, same_some, none_some}
use Rattle.sharc_tree.specs.Measures as measures
use Rattle.sharc_tree.specs.Tree as tree
use Rattle.sharc_check.specs.Constructs.{locals_in_all}

-- what an expression itself passes
abbrev pub own_passed : Resolution → Expression → List Transfer
own_passed r (tree.call s f all) = passed (parameters_named r (named_at r f.site.token)) all
own_passed r (tree.spawn s f a) = passed (parameters_named r (named_at r f.site.token)) (argument a no_arguments)
own_passed r _ = []

module _ (r : Resolution) (P : Transfer → Type 0) where
  abbrev All : List Transfer → Type 0
  All list = AllByRecursion P list

  abbrev pub Passes : Expression → Type 0
  Passes e = All (own_passed r e)

  abbrev pub Begins : Local → Type 0
  Begins l = (e : Expression) → l.initial ≡ Some (value e) → P record { receiver = variable l.declaration; source = value e }

  abbrev Calls : List Expression → Type 0
  Calls list = AllByRecursion Passes list

  abbrev Locals : List Local → Type 0
  Locals list = AllByRecursion Begins list

  mutual
    in_expression : (e : Expression) → All (transfers r e) → Calls (expressions e)
    in_expression (tree.parentheses s a) h = (tt, in_expression a h)
    in_expression (tree.call s f all) h =
        let ps = passed (parameters_named r (named_at r f.site.token)) all in
        (front P ps (argument_transfers r all) h, in_all all (back P ps (argument_transfers r all) h))
    in_expression (tree.spawn s f a) h =
        let ps = passed (parameters_named r (named_at r f.site.token)) (argument a no_arguments) in
        (front P ps (transfers r a) h, in_expression a (back P ps (transfers r a) h))
    in_expression (tree.on_value s w a) h = (tt, in_expression a h)
    in_expression (tree.on_place s w a) h = (tt, in_expression a h)
    in_expression (tree.cast s t a) h = (tt, in_expression a h)
    in_expression (tree.index s a i) h = (tt, both Passes (expressions a) (expressions i) (in_expression a (front P (transfers r a) (transfers r i) h)) (in_expression i (back P (transfers r a) (transfers r i) h)))
    in_expression (tree.field s a w n) h = (tt, in_expression a h)
    in_expression (tree.unary s o a) h = (tt, in_expression a h)
    in_expression (tree.binary s o at a b) h = (tt, both Passes (expressions a) (expressions b) (in_expression a (front P (transfers r a) (transfers r b) h)) (in_expression b (back P (transfers r a) (transfers r b) h)))
    in_expression _ h = (tt, tt)

    in_all : (all : Arguments) → All (argument_transfers r all) → Calls (in_arguments all)
    in_all no_arguments h = tt
    in_all (argument a rest) h = both Passes (expressions a) (in_arguments rest) (in_expression a (front P (transfers r a) (argument_transfers r rest) h)) (in_all rest (back P (transfers r a) (argument_transfers r rest) h))

  in_test : (e : Option Expression) → All (in_option (transfers r) e) → Calls (measures.in_option expressions e)
  in_test None h = tt
  in_test (Some e) h = in_expression e h

  right : (x : Right) → All (right_transfers r x) → Calls (in_right x)
  right (value e) h = in_expression e h
  right (malloc s n t) h = in_test n h

  simple : (x : Simple) → All (simple_transfers r x) → Calls (in_simple x)
  simple (assign s u x) h =
      let head = gives (lvalue u) x in
      both Passes (expressions u) (in_right x)
      (in_expression u (back P head (transfers r u) (front P (head ++ transfers r u) (right_transfers r x) h)))
      (right x (back P (head ++ transfers r u) (right_transfers r x) h))
  simple (does_call e) h = in_expression e h

  simples : (x : Option Simple) → All (in_option (simple_transfers r) x) → Calls (measures.in_option in_simple x)
  simples None h = tt
  simples (Some x) h = simple x h

  initial_calls : (d : Declaration) (x : Option Right) → All (in_option (λ x. gives (variable d) x ++ right_transfers r x) x) → Calls (measures.in_option in_right x)
  initial_calls d None h = tt
  initial_calls d (Some x) h = right x h.1

  initial_begins : (d : Declaration) (x : Option Right) → All (in_option (λ x. gives (variable d) x ++ right_transfers r x) x) → (e : Expression) → x ≡ Some (value e) → P record { receiver = variable d; source = value e }
  initial_begins d None h e is = absurd (none_some (value e) is)
  initial_begins d (Some x) h e is = subst (λ (z : Right). P record { receiver = variable d; source = z }) (same_some x (value e) is) h.0

  local_calls : (l : Local) → All (local_transfers r l) → Calls (in_local l)
  local_calls l h = initial_calls l.declaration l.initial h

  local_begins : (l : Local) → All (local_transfers r l) → Begins l
  local_begins l h = initial_begins l.declaration l.initial h

  first_calls : (x : First) → All (first_transfers r x) → Calls (in_first x)
  first_calls nothing h = tt
  first_calls (declares l) h = local_calls l h
  first_calls (does x) h = simple x h

  first_begins : (x : First) → All (first_transfers r x) → Locals (locals_in_first x)
  first_begins (declares l) h = (local_begins l h, tt)
  first_begins _ h = tt

  -- of a statement: its calls, and its locals
  record Both (es : List Expression) (ls : List Local) : Type 0 where
    calls : Calls es
    locals : Locals ls

  joined : (es ds : List Expression) (ls ks : List Local) → Both es ls → Both ds ks → Both (es ++ ds) (ls ++ ks)
  joined es ds ls ks a b = record { calls = both Passes es ds a.calls b.calls; locals = both Begins ls ks a.locals b.locals }

  mutual
    in_one : (w : WrittenType) (a : Statement) → All (statement_transfers r w a) → Both (in_statement a) (locals_in a)
    in_one w (tree.block s all) h = in_each w all h
    in_one w (tree.declare s l) h = record { calls = local_calls l h; locals = (local_begins l h, tt) }
    in_one w (tree.simple s x) h = record { calls = simple x h; locals = tt }
    in_one w (tree.return s (Some e)) h = record { calls = in_expression e h.1; locals = tt }
    in_one w (tree.if_then s e a) h =
        joined (expressions e) (in_statement a) [] (locals_in a)
        (record { calls = in_expression e (front P (transfers r e) (statement_transfers r w a) h); locals = tt })
        (in_one w a (back P (transfers r e) (statement_transfers r w a) h))
    in_one w (tree.if_then_else s e a b) h =
        let te = transfers r e in
        let ta = statement_transfers r w a in
        let tb = statement_transfers r w b in
        let first = front P (te ++ ta) tb h in
        joined (expressions e ++ in_statement a) (in_statement b) (locals_in a) (locals_in b)
        (joined (expressions e) (in_statement a) [] (locals_in a) (record { calls = in_expression e (front P te ta first); locals = tt }) (in_one w a (back P te ta first)))
        (in_one w b (back P (te ++ ta) tb h))
    in_one w (tree.while s e a) h =
        joined (expressions e) (in_statement a) [] (locals_in a)
        (record { calls = in_expression e (front P (transfers r e) (statement_transfers r w a) h); locals = tt })
        (in_one w a (back P (transfers r e) (statement_transfers r w a) h))
    in_one w (tree.for s x a) h =
        let t1 = first_transfers r x.first in
        let t2 = in_option (transfers r) x.test in
        let t3 = in_option (simple_transfers r) x.step in
        let t4 = statement_transfers r w a in
        let three = front P (t1 ++ t2 ++ t3) t4 h in
        let two = front P (t1 ++ t2) t3 three in
        let es = measures.in_option expressions x.test in
        let ss = measures.in_option in_simple x.step in
        joined (in_head x) (in_statement a) (locals_in_first x.first) (locals_in a)
        (record {
          calls = both Passes (in_first x.first ++ es) ss
              (both Passes (in_first x.first) es (first_calls x.first (front P t1 t2 two)) (in_test x.test (back P t1 t2 two)))
              (simples x.step (back P (t1 ++ t2) t3 three));
          locals = first_begins x.first (front P t1 t2 two);
        })
        (in_one w a (back P (t1 ++ t2 ++ t3) t4 h))
    in_one w _ h = record { calls = tt; locals = tt }

    in_each : (w : WrittenType) (a : Statements) → All (statements_transfers r w a) → Both (in_statements a) (locals_in_all a)
    in_each w no_statements h = record { calls = tt; locals = tt }
    in_each w (statement a rest) h =
        joined (in_statement a) (in_statements rest) (locals_in a) (locals_in_all rest)
        (in_one w a (front P (statement_transfers r w a) (statements_transfers r w rest) h))
        (in_each w rest (back P (statement_transfers r w a) (statements_transfers r w rest) h))

  pub calls_pass : (f : Function) → All (function_transfers r f) → AllByRecursion Passes (in_function f)
  calls_pass f h = (in_each f.result f.statements h).calls

  pub locals_begin : (f : Function) → All (function_transfers r f) → AllByRecursion Begins (locals_in_all f.statements)
  locals_begin f h = (in_each f.result f.statements h).locals
