-- Statements of a typed program lose no reference.
use Rattle.sharc_wants_laws.proofs.{Imports.{ℕ, Bool, true, false, List, ◌++◌, refl, sym, ap, ◌∙◌, Option, Some, None, unsigned_abs, ℤ, pos, IfSome, AllByRecursion, Act, GlobalNumber as Global, Made, Site, Declaration, WrittenType, expressions, in_option, in_right, in_simple, in_local, in_first, in_head, in_statement, in_statements, span_of, Expression, cast, Right, value, malloc, Simple, assign, does_call, Local, First, nothing, declares, does, Statement, empty, block, declare, simple, jump, return, if_then, if_then_else, while, for, Statements, no_statements, statement, Trap, Named, Kind, is_pointer, declared_kind, Resolution, kind_at, variable_kind, first_locals, locals_in, locals_in_all, cell_at, pointed, Assignment, written, row_at, declared_row, Sharing, private, HasType, IsItself, MeetsSimple, MeetsFirst, Meets, AllMeet, element_cells, instance_mode, Run, StorePlace, variable, cell, stored, Calls, tested, eval, Flow, next, returned, on_next, left_by, elements_made, is_positive, right_value, done_simple, initialised, declared, done_first, done_step, done_test, return_with, exec_all, front, back}, Runs.{Same, Starts, starts_on}, Typed.{Facts, Names, names_start, declared_reference, no_function_held}, Expressions.{Kept, Keeps, kept_give, kept_either, tested_kept, fitting_kept, CallsKeep, eval_kept, place_kept}}
use Rattle.sharc_meaning.specs.Statements.{exec}
use Rattle.sharc_wants_laws.proofs.Runs as runs
use Rattle.sharc_wants_laws.proofs.Steps as steps

-- ---- what holds of each in a list

abbrev pub Has : Resolution → Expression → Type 0
Has r e = HasType r e (kind_at r e)

abbrev pub AreTyped : Resolution → List Expression → Type 0
AreTyped r list = AllByRecursion (Has r) list

abbrev pub Own : Resolution → List Declaration → Type 0
Own r list = AllByRecursion (IsItself r Named.Variable) list

itself : (P : Expression → Type 0) (e : Expression) → AllByRecursion P (expressions e) → P e
itself P (cast s t a) h = h.0
itself P _ h = h.0

module _ (m : Assignment) (n d : ℕ) (on_call : Calls) (hc : CallsKeep m n d on_call) (w : Facts m.typed) where
  typed_kept : (e : Expression) → AreTyped m.typed (expressions e) → Keeps m n d (eval on_call m e)
  typed_kept e h = eval_kept m n d on_call hc w e (kind_at m.typed e) (itself (Has m.typed) e h)

  elements_kept : (e : Option Expression) → AreTyped m.typed (in_option expressions e) → Keeps m n d (elements_made on_call m e)
  elements_kept None h ts = kept_give m n d ts (pos 1) (Same ts) refl
  elements_kept (Some e) h ts = typed_kept e h ts

  right_kept : (kind : Kind) (target : Sharing) (x : Right) → AreTyped m.typed (in_right x) → Keeps m n d (right_value on_call m kind target x)
  right_kept kind target (value e) h ts = fitting_kept m n d kind e (eval on_call m e) (typed_kept e h) ts
  right_kept kind target (malloc s e t) h ts = runs.kept_entered m.typed n d ts _ (Same ts) (runs.kept_next m.typed n d ts ts _ _ (Same ts) (elements_kept e h ts) (λ elements. runs.kept_atom m.typed n d ts _ (Same ts)
      (runs.atom_next m.typed n d false false false ts ts _ _ (Same ts) (steps.atom_unless m.typed n d (is_positive elements) false ts Trap.SizeNotPositive s.first) (λ _.
      runs.atom_next m.typed n d false false false ts ts _ _ (Same ts) (steps.atom_values m.typed n d false ts) (λ held.
      steps.atom_level m.typed n d false ts _ (Same ts) (steps.atom_event m.typed n d false ts s.first (Act.New (element_cells m.typed (declared_kind t)) (unsigned_abs elements) (instance_mode m.typed held target))))))))

  -- ---- assignments, calls and declarations

  stored_kept : (ts us : List ℤ) (site : Site) (kind : Kind) (mode : Sharing) (p : StorePlace) (v : ℤ) → Names m.typed ts kind p us → Kept m n d us (stored m.typed site kind mode p v) (Same us)
  stored_kept ts us site kind mode (variable x) v h = runs.kept_atom m.typed n d us _ (Same us) (steps.stored_variable m.typed n d us m.typed site kind mode x v h.1)
  stored_kept ts us site kind mode (cell (Global g) first c) v h = runs.kept_atom m.typed n d us _ (Same us) (steps.stored_cell m.typed n d us m.typed site kind mode (Global g) first c v)
  stored_kept ts us site kind mode (cell (Made j) first c) v h = runs.kept_atom m.typed n d us _ (Same us) (steps.stored_cell m.typed n d us m.typed site kind mode (Made j) first c v)

  simple_kept : (x : Simple) → AreTyped m.typed (in_simple x) → MeetsSimple m.typed x → Keeps m n d (done_simple on_call m x)
  simple_kept (assign s u x) h rule ts = runs.kept_scope m.typed n d ts _ (Starts ts) (λ y us z. z) (runs.kept_then m.typed n d ts _ _ (Names m.typed ts (kind_at m.typed u)) (Starts ts)
      (place_kept m n d on_call hc w (span_of u).first u (kind_at m.typed u) (itself (Has m.typed) u (front (Has m.typed) (expressions u) (in_right x) h)) rule.0 (no_function_held (kind_at m.typed u) rule.1) ts) (λ p us names.
      runs.kept_next m.typed n d us us _ _ (Starts ts) (right_kept (kind_at m.typed u) (pointed m (row_at m.typed u)) x (back (Has m.typed) (expressions u) (in_right x) h) us) (λ v.
      runs.kept_as m.typed n d us _ (Same us) (Starts ts) (λ y vs same. starts_on ts us y vs (names_start m.typed ts (kind_at m.typed u) p us y names) same) (stored_kept ts us (span_of u).first (kind_at m.typed u) (cell_at m u) p v names))))
  simple_kept (does_call e) h rule ts = runs.kept_next m.typed n d ts ts _ _ (Same ts) (typed_kept e h ts) (λ v. runs.kept_atom m.typed n d ts _ (Same ts) (steps.atom_drops m.typed n d false ts (kind_at m.typed e) v))

  initialised_kept : (x : Declaration) (y : Option Right) → AreTyped m.typed (in_option in_right y) → IsItself m.typed Named.Variable x → Keeps m n d (initialised on_call m x y)
  initialised_kept x None h own ts = kept_give m n d ts tt (Same ts) refl
  initialised_kept x (Some y) h own ts = runs.kept_next m.typed n d ts ts _ _ (Same ts) (right_kept (declared_kind x.written) (pointed m (Some (declared_row m.typed written x.name.site.token))) y h ts) (λ v.
      runs.kept_atom m.typed n d ts _ (Same ts) (steps.stored_variable m.typed n d ts m.typed x.name.site (declared_kind x.written) private x.name.site.token v
      (λ is. declared_reference x.written ∙ ap (λ o. is_pointer (variable_kind o)) (sym own.1) ∙ is)))

  declared_kept : (l : Local) → AreTyped m.typed (in_local l) → IsItself m.typed Named.Variable l.declaration → Keeps m n d (declared on_call m l)
  declared_kept l h own ts = runs.kept_next m.typed n d ts ts _ _ (Same ts) (runs.kept_atom m.typed n d ts _ (Same ts) (steps.atom_begins m.typed n d false ts l.declaration (pos 0) (ap (λ o. is_pointer (variable_kind o)) (sym own.1))))
      (λ _. initialised_kept l.declaration l.initial h own ts)

  -- ---- heads and tests

  first_kept : (x : First) → AreTyped m.typed (in_first x) → MeetsFirst m.typed x → Own m.typed (first_locals x) → Keeps m n d (done_first on_call m x)
  first_kept nothing h rule own ts = kept_give m n d ts tt (Same ts) refl
  first_kept (declares l) h rule own ts = runs.kept_entered m.typed n d ts _ (Same ts) (declared_kept l h own.0 ts)
  first_kept (does x) h rule own ts = simple_kept x h rule ts

  step_kept : (x : Option Simple) → AreTyped m.typed (in_option in_simple x) → IfSome x (MeetsSimple m.typed) → Keeps m n d (done_step on_call m x)
  step_kept None h rule ts = kept_give m n d ts tt (Same ts) refl
  step_kept (Some x) h rule ts = simple_kept x h rule ts

  truth_kept : (e : Expression) → AreTyped m.typed (expressions e) → Keeps m n d (tested m.typed e (eval on_call m e))
  truth_kept e h = tested_kept m n d e (eval on_call m e) (typed_kept e h)

  test_kept : (e : Option Expression) → AreTyped m.typed (in_option expressions e) → Keeps m n d (done_test on_call m e)
  test_kept None h ts = kept_give m n d ts true (Same ts) refl
  test_kept (Some e) h ts = truth_kept e h ts

  return_kept : (kind : Kind) (site : Site) (e : Option Expression) → AreTyped m.typed (in_option expressions e) → Keeps m n d (return_with on_call m kind site e)
  return_kept kind site None h ts = kept_give m n d ts (returned site (pos 0)) (Same ts) refl
  return_kept kind site (Some e) h ts = runs.kept_next m.typed n d ts ts _ _ (Same ts) (fitting_kept m n d kind e (eval on_call m e) (typed_kept e h) ts) (λ v. kept_give m n d ts (returned site v) (Same ts) refl)

  next_kept : (ts : List ℤ) (flow : Flow) (rest : Run Flow) → Kept m n d ts rest (Same ts) → Kept m n d ts (on_next flow rest) (Same ts)
  next_kept ts next rest h = h
  next_kept ts k rest h = kept_give m n d ts k (Same ts) refl

  -- ---- statements

  mutual
    pub exec_kept : (kind : Kind) (t : WrittenType) (in_loop : Bool) (a : Statement) → AreTyped m.typed (in_statement a) → Meets m.typed t in_loop a → Own m.typed (locals_in a) → Keeps m n d (exec on_call m kind a)
    exec_kept kind t l (empty s) h rule own ts = runs.kept_entered m.typed n d ts _ (Same ts) (kept_give m n d ts next (Same ts) refl)
    exec_kept kind t l (block s all) h rule own ts = runs.kept_entered m.typed n d ts _ (Same ts) (runs.kept_block m.typed n d ts _ (Same ts) (exec_all_kept kind t l all h rule own ts))
    exec_kept kind t l (declare s x) h rule own ts = runs.kept_entered m.typed n d ts _ (Same ts) (runs.kept_next m.typed n d ts ts _ _ (Same ts) (declared_kept x h own.0 ts) (λ _. kept_give m n d ts next (Same ts) refl))
    exec_kept kind t l (simple s x) h rule own ts = runs.kept_entered m.typed n d ts _ (Same ts) (runs.kept_next m.typed n d ts ts _ _ (Same ts) (simple_kept x h rule ts) (λ _. kept_give m n d ts next (Same ts) refl))
    exec_kept kind t l (jump s j) h rule own ts = runs.kept_entered m.typed n d ts _ (Same ts) (kept_give m n d ts (left_by j) (Same ts) refl)
    exec_kept kind t l (return s e) h rule own ts = runs.kept_entered m.typed n d ts _ (Same ts) (return_kept kind s.first e h ts)
    exec_kept kind t l (if_then s e a) h rule own ts = runs.kept_entered m.typed n d ts _ (Same ts) (runs.kept_next m.typed n d ts ts _ _ (Same ts) (truth_kept e (front (Has m.typed) (expressions e) (in_statement a) h) ts) (λ is_true.
        kept_either m n d is_true ts _ _ (Same ts) (exec_kept kind t l a (back (Has m.typed) (expressions e) (in_statement a) h) rule.1 own ts) (kept_give m n d ts next (Same ts) refl)))
    exec_kept kind t l (if_then_else s e a b) h rule own ts = let first = front (Has m.typed) (expressions e ++ in_statement a) (in_statement b) h in
        runs.kept_entered m.typed n d ts _ (Same ts) (runs.kept_next m.typed n d ts ts _ _ (Same ts) (truth_kept e (front (Has m.typed) (expressions e) (in_statement a) first) ts) (λ is_true.
        kept_either m n d is_true ts _ _ (Same ts) (exec_kept kind t l a (back (Has m.typed) (expressions e) (in_statement a) first) rule.1 (front (IsItself m.typed Named.Variable) (locals_in a) (locals_in b) own) ts)
        (exec_kept kind t l b (back (Has m.typed) (expressions e ++ in_statement a) (in_statement b) h) rule.2 (back (IsItself m.typed Named.Variable) (locals_in a) (locals_in b) own) ts)))
    exec_kept kind t l (while s e a) h rule own ts = runs.kept_entered m.typed n d ts _ (Same ts) (runs.kept_loop m.typed n d ts _ _ _ (truth_kept e (front (Has m.typed) (expressions e) (in_statement a) h) ts) (kept_give m n d ts tt (Same ts) refl)
        (exec_kept kind t true a (back (Has m.typed) (expressions e) (in_statement a) h) rule.1 own ts))
    exec_kept kind t l (for s x a) h rule own ts =
        let head = front (Has m.typed) (in_head x) (in_statement a) h in
        let start = front (Has m.typed) (in_first x.first ++ in_option expressions x.test) (in_option in_simple x.step) head in
        runs.kept_entered m.typed n d ts _ (Same ts) (runs.kept_block m.typed n d ts _ (Same ts) (runs.kept_next m.typed n d ts ts _ _ (Same ts)
        (first_kept x.first (front (Has m.typed) (in_first x.first) (in_option expressions x.test) start) rule.0.0 (front (IsItself m.typed Named.Variable) (first_locals x.first) (locals_in a) own) ts) (λ _.
        runs.kept_loop m.typed n d ts _ _ _ (test_kept x.test (back (Has m.typed) (in_first x.first) (in_option expressions x.test) start) ts)
        (step_kept x.step (back (Has m.typed) (in_first x.first ++ in_option expressions x.test) (in_option in_simple x.step) head) rule.0.2 ts)
        (exec_kept kind t true a (back (Has m.typed) (in_head x) (in_statement a) h) rule.1 (back (IsItself m.typed Named.Variable) (first_locals x.first) (locals_in a) own) ts))))

    pub exec_all_kept : (kind : Kind) (t : WrittenType) (in_loop : Bool) (all : Statements) → AreTyped m.typed (in_statements all) → AllMeet m.typed t in_loop all → Own m.typed (locals_in_all all) → Keeps m n d (exec_all on_call m kind all)
    exec_all_kept kind t l no_statements h rule own ts = kept_give m n d ts next (Same ts) refl
    exec_all_kept kind t l (statement a rest) h rule own ts = runs.kept_next m.typed n d ts ts _ _ (Same ts)
        (exec_kept kind t l a (front (Has m.typed) (in_statement a) (in_statements rest) h) rule.0 (front (IsItself m.typed Named.Variable) (locals_in a) (locals_in_all rest) own) ts) (λ flow.
        next_kept ts flow _ (exec_all_kept kind t l rest (back (Has m.typed) (in_statement a) (in_statements rest) h) rule.1 (back (IsItself m.typed Named.Variable) (locals_in a) (locals_in_all rest) own) ts))
