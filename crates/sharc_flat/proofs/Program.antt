-- Every statement, by its form, and every function.
use Rattle.sharc_flat.proofs.{Imports.{◌≡◌, ℕ, ◌+◌, ◌≤◌, Bool, true, false, cond, List, [], ◌∷◌, ◌++◌, length, Option, Some, None, refl, sym, ap, ◌∙◌, subst, arith, append_assoc, append-nil, ℤ, pos, unsigned_abs, Act, Span, Expression, Right, value, malloc, Simple, assign, does_call, Local, First, nothing, declares, does, Statement, empty, block, declare, simple, jump, return, if_then, if_then_else, while, for, Statements, no_statements, statement, span_of, Declaration, Kind, is_integer, int, declared_kind, Assignment, Sharing, private, mode_in, pointed, written, row_at, declared_row, stored, Run, ◌>>=◌, ◌>>◌, give, entered, answered, value_of, is_reference, temporarily, done, unless_stop, in_block, begins_with, tested, fitting, Calls, eval, place_of, Flow, next, returned, loop, left_by, exec_all, is_positive, right_value, done_simple, initialised, declared, done_first, done_step, done_test, element_cells, instance_mode, Op, lvalue_of, Target, base_width, beside_field, store_code, target, width_code, index_width, object_spot, no_text, Context, int_count, ref_count, at_site, ends_from, leaves, slot_of, Slot, truth_code, Around, opened, looping, result_code, zero_code, jump_code, return_code, loop_code, choice_code, statements_code, behind_statements, IsFlattened, expression_code, place_code, right_code, simple_code, initial_code, local_code, first_code, behind_first, step_code, turn_code, if_code, statement_code, behind_statement, RightSuits, LeftSuits, SimpleSuits, InitialSuits, FirstSuits, in_first, TestSuits, IfThere, is_declaration, in_statement, StatementSuits, StatementsSuit, Use, kind_at, Trap}, Runs.{HasAt, has_front, Same, weaken, bind, enters_at}, Agreeing.{Standing, place, holding, same_frame}, Accessing.context, Values.{RunsAs, PlaceAs}, Testing.{TestAs, fitting_runs, tested_runs}, Executing.{After, Here, Beyond, StatementAs, entered_statement, block_runs, closed_runs}, Statements.{StepAs, step_then, DecidesAs, loop_runs, no_more, one_more, jump_runs, empty_runs, decides_runs, always_runs, if_runs, choice_runs}, Linking.CallsAs, Taking.{need_more, entered_more, new_runs}, Expressing.give_int, Inducing.{eval_runs, place_runs}, Assigning.{assign_cell_runs, assign_name_runs, call_runs}, Declaring.{begin_runs, initial_runs, return_none_runs, return_value_runs, headed_runs}, Keeping.turn_length}
use Rattle.sharc_meaning.specs.Statements.{exec}
use Rattle.sharc_flat.specs.Places as targets

module _ (m : Assignment) (z : Standing) (result : Kind) (ints0 : ℕ → ℤ) (on_call : Calls) (n : ℕ) (calls_as : CallsAs m on_call n) (is : IsFlattened m z.flat) (room : length z.frames + n ≡ 255) where
  abbrev C : List Slot → Context
  C scope = context m z scope

  abbrev E : Expression → Run ℤ
  E e = eval on_call m e

  abbrev X : List Slot → Expression → ℕ → ℕ → List Op
  X scope e i r = expression_code (C scope) i r e

  abbrev K : Expression → Kind
  K e = kind_at m.typed e

  abbrev New : Run ℤ → Span → Sharing → ℕ → Run ℤ
  New count s mode cells = count >>= λ v. unless_stop (is_positive v) Trap.SizeNotPositive s.first >> (λ u. answered s.first (Act.New cells (unsigned_abs v) (instance_mode m.typed (value_of u) mode)) u)

  abbrev new_op : List Slot → (ℕ → ℕ → List Op) → Span → Sharing → ℕ → ℕ → ℕ → List Op
  new_op scope counts s mode cells i r = counts i r ++ (Op.ChkPositive i (at_site s.first) ∷ Op.New r i cells (object_spot (C scope) s.first no_text Use.Other mode) ∷ [])

  -- the right side of `=`
  record RightRuns (scope : List Slot) (kind : Kind) (mode : Sharing) (x : Right) : Type 0 where
    kr : Kind
    same : is_reference kr ≡ is_reference kind
    scalar : is_reference kind ≡ false → is_integer kr ≡ true
    runs : RunsAs m z scope kr 3 (right_value on_call m kind mode x) (λ i r. right_code (C scope) i r kind mode x)

  right_runs : (scope : List Slot) (kind : Kind) (mode : Sharing) (x : Right) → RightSuits (C scope) kind mode x → RightRuns scope kind mode x
  right_runs scope kind mode (value e) h = record { kr = K e; same = h.1.0; scalar = h.1.1; runs = need_more m z scope (K e) 1 3 (fitting kind e (E e)) (λ i r. X scope e i r ++ width_code i kind (span_of e).first) (omega arith) (fitting_runs m z scope kind (K e) e (E e) (X scope e) h.1.2 (eval_runs m z scope on_call n calls_as is room e h.0)) }
  right_runs scope kind mode (malloc s None w) h = record {
    kr = kind;
    same = refl;
    scalar = λ e. absurd (cc (h.0, e));
    runs = entered_more m z scope kind 9 3 (New (give (pos 1)) s mode (element_cells m.typed (declared_kind w))) (new_op scope (λ i r. Op.Constant i (pos 1) ∷ []) s mode (element_cells m.typed (declared_kind w))) (omega arith) (new_runs m z scope int kind 7 (give (pos 1)) (λ i r. Op.Constant i (pos 1) ∷ []) s.first no_text Use.Other mode (element_cells m.typed (declared_kind w)) refl h.0 h.1 (give_int m z scope int (pos 1) refl));
  }
  right_runs scope kind mode (malloc s (Some x) w) h = record {
    kr = kind;
    same = refl;
    scalar = λ e. absurd (cc (h.0, e));
    runs = entered_more m z scope kind 2 3 (New (E x) s mode (element_cells m.typed (declared_kind w))) (new_op scope (X scope x) s mode (element_cells m.typed (declared_kind w))) (omega arith) (new_runs m z scope (K x) kind 0 (E x) (X scope x) s.first no_text Use.Other mode (element_cells m.typed (declared_kind w)) h.2.1 h.0 h.1 (eval_runs m z scope on_call n calls_as is room x h.2.0));
  }

  abbrev Steps : List Slot → List Slot → ℕ → Run (Unit {0}) → List Op → Type 0
  Steps scope scope' need run code = StepAs m z result ints0 scope scope' need run code

  no_step : (scope : List Slot) → Steps scope scope 0 done []
  no_step scope pc c ints refs s k has st rest =
      let p : pc + 0 ≡ pc = omega arith in
      weaken z.flat s.fuel (c + ref_count scope) (c + 0 + ref_count scope) _ s.answers _ (omega arith)
      (subst (λ q. Same z.flat s.fuel (c + ref_count scope) (k tt s) s.answers (place z q ints refs s)) p (rest ints refs s st))

  entered_step : (scope scope' : List Slot) (need : ℕ) (run : Run (Unit {0})) (code : List Op) → need ≤ 7 → Steps scope scope' need run code → Steps scope scope' 0 (entered run) (Op.Enter ∷ code)
  entered_step scope scope' need run code few of_run pc c ints refs s k has st rest =
      let end : pc + 1 + length code ≡ pc + length (Op.Enter ∷ code) = omega arith in
      weaken z.flat s.fuel (c + ref_count scope) (c + 0 + ref_count scope) _ s.answers _ (omega arith)
      (enters_at z.flat s.fuel (c + ref_count scope) run k s (place z pc ints refs s) (place z (pc + 1) ints refs s) refl (holding z [] scope ints refs s st.agree) refl refl has.0 refl
      (λ f. weaken z.flat f (c + need + ref_count scope) (c + ref_count scope + 7) _ s.answers _ (omega arith)
      (of_run (pc + 1) c ints refs (record s { fuel = f }) k has.1 (record { agree = same_frame z [] scope [] ints refs s (record s { fuel = f }) refl refl st.agree; kept = st.kept })
      (λ ints1 refs1 s1 st1. subst (λ q. Same z.flat s1.fuel (c + ref_count scope') (k tt s1) s1.answers (place z q ints1 refs1 s1)) (sym end) (rest ints1 refs1 s1 st1)))))

  -- ---- assignments
  assign_by : (scope : List Slot) (t : Target) (u : Expression) (x : Right) → PlaceAs m z scope t None (beside_field m.typed (mode_in m u)) 0 (place_of on_call m (span_of u).first u) (λ i r. place_code (C scope) i r (span_of u).first None (beside_field m.typed (mode_in m u)) u)
      → LeftSuits (C scope) (K u) (mode_in m u) t → RightSuits (C scope) (K u) (pointed m (row_at m.typed u)) x
      → (let i = int_count scope in let r = ref_count scope in let vi = i + index_width t (beside_field m.typed (mode_in m u)) in let vr = r + base_width t in let target_mode = pointed m (row_at m.typed u) in
      Steps scope scope 0 (temporarily (place_of on_call m (span_of u).first u >>= λ p. right_value on_call m (K u) target_mode x >>= λ v. stored m.typed (span_of u).first (K u) (mode_in m u) p v))
      (place_code (C scope) i r (span_of u).first None (beside_field m.typed (mode_in m u)) u ++ (right_code (C scope) vi vr (K u) target_mode x ++ store_code (C scope) i r vi vr (span_of u).first (lvalue_of m.typed u) (mode_in m u) (is_reference (K u)) t)))
  assign_by scope (targets.variable y) u x found h hx =
      let R = right_runs scope (K u) (pointed m (row_at m.typed u)) x hx in
      assign_name_runs m z result ints0 scope y (K u) R.kr (place_of on_call m (span_of u).first u) (λ i r. place_code (C scope) i r (span_of u).first None (beside_field m.typed (mode_in m u)) u)
      (right_value on_call m (K u) (pointed m (row_at m.typed u)) x) (λ i r. right_code (C scope) i r (K u) (pointed m (row_at m.typed u)) x) (span_of u).first (mode_in m u) R.same R.scalar h found R.runs
  assign_by scope k u x found h hx =
      let R = right_runs scope (K u) (pointed m (row_at m.typed u)) x hx in
      assign_cell_runs m z result ints0 scope k (K u) R.kr (place_of on_call m (span_of u).first u) (λ i r. place_code (C scope) i r (span_of u).first None (beside_field m.typed (mode_in m u)) u)
      (right_value on_call m (K u) (pointed m (row_at m.typed u)) x) (λ i r. right_code (C scope) i r (K u) (pointed m (row_at m.typed u)) x) (span_of u).first (lvalue_of m.typed u) (mode_in m u) refl h.0 R.same R.scalar h.1 found R.runs

  simple_runs : (scope : List Slot) (x : Simple) → SimpleSuits (C scope) x → Steps scope scope 0 (done_simple on_call m x) (simple_code (C scope) (int_count scope) (ref_count scope) x)
  simple_runs scope (assign s u x) h = assign_by scope (target m.typed None u) u x (place_runs m z scope on_call n calls_as is room u (span_of u).first None (beside_field m.typed (mode_in m u)) h.0) h.1 h.2
  simple_runs scope (does_call e) h = call_runs m z result ints0 (K e) scope (E e) (X scope e) (eval_runs m z scope on_call n calls_as is room e h)

  -- ---- declarations
  initial_none : (scope : List Slot) (d : Declaration)
      → Steps scope (scope ++ slot_of d ∷ []) 5 (begins_with d (pos 0) >> done) (zero_code (is_reference (declared_kind d.written)) (int_count scope) (ref_count scope) ++ [])
  initial_none scope d pc c ints refs s k has st rest =
      let Z = zero_code (is_reference (declared_kind d.written)) (int_count scope) (ref_count scope) in
      let end : pc + length Z ≡ pc + length (Z ++ []) = ap (λ l. pc + length l) (sym (append-nil Z)) in
      bind z.flat s.fuel (c + 5 + ref_count scope) s.answers (begins_with d (pos 0) s) (λ _. done) k (place z pc ints refs s)
      (weaken z.flat s.fuel (c + 2 + ref_count scope) (c + 5 + ref_count scope) _ s.answers _ (omega arith)
      (begin_runs m z result ints0 scope d pc c ints refs s (λ _ u. k tt u) (has_front z.flat.lines pc Z [] has) st
      (λ ints1 refs1 s1 st1. subst (λ q. Same z.flat s1.fuel (c + ref_count (scope ++ slot_of d ∷ [])) (k tt s1) s1.answers (place z q ints1 refs1 s1)) (sym end) (rest ints1 refs1 s1 st1))))

  initial_by : (scope : List Slot) (d : Declaration) (x : Option Right) → InitialSuits (C scope) d x
      → Steps scope (scope ++ slot_of d ∷ []) 5 (begins_with d (pos 0) >> initialised on_call m d x) (zero_code (is_reference (declared_kind d.written)) (int_count scope) (ref_count scope) ++ initial_code (C (scope ++ slot_of d ∷ [])) d x)
  initial_by scope d None h = initial_none scope d
  initial_by scope d (Some x) h =
      let sc = scope ++ slot_of d ∷ [] in
      let mode = pointed m (Some (declared_row m.typed written d.name.site.token)) in
      let R = right_runs sc (declared_kind d.written) mode x h.0 in
      initial_runs m z result ints0 scope d R.kr (right_value on_call m (declared_kind d.written) mode x) (λ i r. right_code (C sc) i r (declared_kind d.written) mode x) private R.same R.scalar h.1 R.runs

  local_runs : (scope : List Slot) (l : Local) → InitialSuits (C scope) l.declaration l.initial → Steps scope (scope ++ slot_of l.declaration ∷ []) 5 (declared on_call m l) (local_code (C scope) l)
  local_runs scope l h = initial_by scope l.declaration l.initial h

  -- ---- tests
  tests : (scope : List Slot) (e : Expression) → TestSuits (C scope) e → TestAs m z scope (tested m.typed e (E e)) (λ i r. X scope e i r ++ truth_code (is_reference (K e)) i r)
  tests scope e h = tested_runs m z scope (K e) e (E e) (X scope e) refl h.1 (eval_runs m z scope on_call n calls_as is room e h.0)

  decides_one : (scope : List Slot) (e : Expression) → TestSuits (C scope) e → DecidesAs m z result ints0 scope 1 (tested m.typed e (E e)) (turn_code (C scope) (Some e))
  decides_one scope e h = decides_runs m z result ints0 scope (tested m.typed e (E e)) (λ i r. X scope e i r ++ truth_code (is_reference (K e)) i r) (tests scope e h)

  gain_of : Option Expression → ℕ
  gain_of None = 0
  gain_of (Some e) = 1

  decides : (scope : List Slot) (e : Option Expression) → IfThere (TestSuits (C scope)) e → DecidesAs m z result ints0 scope (gain_of e) (done_test on_call m e) (turn_code (C scope) e)
  unfolding gain_of
  decides scope None h = always_runs m z result ints0 scope
  decides scope (Some e) h = decides_one scope e h

  step_runs : (scope : List Slot) (x : Option Simple) → IfThere (SimpleSuits (C scope)) x → Steps scope scope 0 (done_step on_call m x) (step_code (C scope) x)
  step_runs scope None h = no_step scope
  step_runs scope (Some x) h = simple_runs scope x h

  -- ---- scopes
  abbrev declared_by : Statement → List Slot
  declared_by (declare s l) = slot_of l.declaration ∷ []
  declared_by _ = []

  behind_is : (scope : List Slot) (x : Statement) → behind_statement (C scope) x ≡ C (scope ++ declared_by x)
  behind_is scope (declare s l) = refl
  behind_is scope _ = ap C (sym (append-nil scope))

  in_is : (scope : List Slot) (x : Statement) → in_statement (C scope) x ≡ behind_statement (C scope) x
  in_is scope (empty s) = refl
  in_is scope _ = refl

  stays : (scope : List Slot) (x : Statement) → is_declaration x ≡ false → behind_statement (C scope) x ≡ C scope
  stays scope (declare s l) h = absurd (cc)
  stays scope _ h = refl

  first_more : First → List Slot
  first_more (declares l) = slot_of l.declaration ∷ []
  first_more _ = []

  first_is : (scope : List Slot) (x : First) → behind_first (C scope) x ≡ C (scope ++ first_more x)
  unfolding first_more
  first_is scope (declares l) = refl
  first_is scope _ = ap C (sym (append-nil scope))

  in_first_is : (scope : List Slot) (x : First) → in_first (C scope) x ≡ behind_first (C scope) x
  in_first_is scope (does x) = refl
  in_first_is scope _ = refl

  first_runs : (scope : List Slot) (x : First) → FirstSuits (C scope) x → Steps scope (scope ++ first_more x) 0 (done_first on_call m x) (first_code (C scope) x)
  unfolding first_more
  first_runs scope nothing h = subst (λ q. Steps scope q 0 done []) (sym (append-nil scope)) (no_step scope)
  first_runs scope (declares l) h = entered_step scope (scope ++ slot_of l.declaration ∷ []) 5 (declared on_call m l) (local_code (C scope) l) (omega arith) (local_runs scope l h)
  first_runs scope (does x) h = subst (λ q. Steps scope q 0 (done_simple on_call m x) (simple_code (C scope) (int_count scope) (ref_count scope) x)) (sym (append-nil scope)) (simple_runs scope x h)

  pub beyond_all : (scope : List Slot) (all : Statements) → Beyond m z result ints0 scope (behind_statements (C scope) all).scope
  beyond_all scope no_statements = ([], sym (append-nil scope))
  beyond_all scope (statement x rest) =
      let b = beyond_all (scope ++ declared_by x) rest in
      (declared_by x ++ b.0, ap (λ (q : Context). (behind_statements q rest).scope) (behind_is scope x) ∙ b.1 ∙ append_assoc scope (declared_by x) b.0)

  -- ---- statements
  abbrev Runs1 : Around → List Slot → List Slot → Run Flow → (ℕ → List Op) → Type 0
  Runs1 a scope scope' run code = StatementAs m z result ints0 a (Here m z result ints0 scope) scope scope' 0 run code

  abbrev here : Around → List Slot → List Slot → ℕ → Run Flow → (ℕ → List Op) → Type 0
  here a scope scope' need run code = StatementAs m z result ints0 a (Here m z result ints0 scope) scope scope' need run code

  -- a loop at this place
  while_runs : (a : Around) (scope : List Slot) (e : Expression) (body : Run Flow) (cb : ℕ → ℕ → List Op) → TestSuits (C scope) e
      → ((pc : ℕ) → here (looping a (pc + 1) (pc + 2)) scope scope 0 body (λ at. cb pc at))
      → here a scope scope 1 (loop (tested m.typed e (E e)) done body) (λ pc. loop_code pc [] (turn_code (C scope) (Some e)) (λ at. cb pc at))
  while_runs a scope e body cb h of_body pc c ints refs s k has st rest =
      loop_runs m z result ints0 a scope pc 1 (tested m.typed e (E e)) (turn_code (C scope) (Some e)) done [] body (λ at. cb pc at) (decides_one scope e h) (turn_length (C scope) (Some e)) (no_step scope) (of_body pc) c k has rest ints refs s st

  -- and one after what its head begins with
  for_runs : (a : Around) (scope more : List Slot) (first : First) (test : Option Expression) (update : Option Simple) (body : Run Flow) (cb : ℕ → ℕ → List Op) → first_more first ≡ more → FirstSuits (C scope) first → IfThere (TestSuits (C (scope ++ more))) test → IfThere (SimpleSuits (C (scope ++ more))) update
      → ((pc : ℕ) → here (looping (record a { inside = length scope ∷ a.inside }) (pc + length (first_code (C scope) first) + 1) (pc + length (first_code (C scope) first) + 2)) (scope ++ more) (scope ++ more) 0 body (λ at. cb pc at))
      → here a scope scope 1 (in_block (done_first on_call m first >> loop (done_test on_call m test) (done_step on_call m update) body))
      (λ pc. (first_code (C scope) first ++ loop_code (pc + length (first_code (C scope) first)) (step_code (C (scope ++ more)) update) (turn_code (C (scope ++ more)) test) (λ at. cb pc at)) ++ ends_from (scope ++ more) (length scope))
  for_runs a scope more first test update body cb e hf ht hu of_body =
      block_runs m z result ints0 a scope (scope ++ more) 1 (done_first on_call m first >> loop (done_test on_call m test) (done_step on_call m update) body)
      (λ pc. first_code (C scope) first ++ loop_code (pc + length (first_code (C scope) first)) (step_code (C (scope ++ more)) update) (turn_code (C (scope ++ more)) test) (λ at. cb pc at)) (more, refl)
      (λ pc c ints refs s k has st rest. headed_runs m z result ints0 (record a { inside = length scope ∷ a.inside }) scope more 0 (gain_of test) (done_first on_call m first) (first_code (C scope) first) (done_test on_call m test) (turn_code (C (scope ++ more)) test)
      (done_step on_call m update) (step_code (C (scope ++ more)) update) body cb pc (subst (λ q. Steps scope (scope ++ q) 0 (done_first on_call m first) (first_code (C scope) first)) e (first_runs scope first hf)) (decides (scope ++ more) test ht) (turn_length (C (scope ++ more)) test) (step_runs (scope ++ more) update hu) (of_body pc)
      c ints refs s k has st rest)

  mutual
    pub statement_runs : (x : Statement) (a : Around) (scope : List Slot) (in_loop : Bool) → a.result ≡ result → (in_loop ≡ true → a.broken ≡ 0 → ⊥) → StatementSuits (C scope) result in_loop x
        → Runs1 a scope (behind_statement (C scope) x).scope (exec on_call m result x) (λ pc. statement_code (C scope) a pc x)
    statement_runs (empty s) a scope in_loop er il h = entered_statement m z result ints0 a (Here m z result ints0 scope) scope scope 1 (give next) (λ pc. []) (omega arith) (empty_runs m z result ints0 a scope)
    statement_runs (block s all) a scope in_loop er il h =
        entered_statement m z result ints0 a (Here m z result ints0 scope) scope scope 2 (in_block (exec_all on_call m result all)) (λ pc. (statements_code (C scope) (opened (C scope) a) pc all ++ ends_from (behind_statements (C scope) all).scope (length scope)) ++ Op.BlockEnd ∷ []) (omega arith)
        (closed_runs m z result ints0 a scope 1 (in_block (exec_all on_call m result all)) (λ pc. statements_code (C scope) (opened (C scope) a) pc all ++ ends_from (behind_statements (C scope) all).scope (length scope))
        (block_runs m z result ints0 a scope (behind_statements (C scope) all).scope 1 (exec_all on_call m result all) (λ pc. statements_code (C scope) (opened (C scope) a) pc all) (beyond_all scope all) (statements_run all (opened (C scope) a) scope in_loop er il h)))
    statement_runs (declare s l) a scope in_loop er il h =
        entered_statement m z result ints0 a (Here m z result ints0 scope) scope (scope ++ slot_of l.declaration ∷ []) 6 (declared on_call m l >> give next) (λ pc. local_code (C scope) l) (omega arith)
        (step_then m z result ints0 a scope (scope ++ slot_of l.declaration ∷ []) 5 (declared on_call m l) (local_code (C scope) l) (local_runs scope l h))
    statement_runs (simple s x) a scope in_loop er il h =
        entered_statement m z result ints0 a (Here m z result ints0 scope) scope scope 1 (done_simple on_call m x >> give next) (λ pc. simple_code (C scope) (int_count scope) (ref_count scope) x) (omega arith)
        (step_then m z result ints0 a scope scope 0 (done_simple on_call m x) (simple_code (C scope) (int_count scope) (ref_count scope) x) (simple_runs scope x h))
    statement_runs (jump s j) a scope in_loop er il h =
        entered_statement m z result ints0 a (Here m z result ints0 scope) scope scope 3 (give (left_by j)) (λ pc. jump_code (C scope) a j) (omega arith) (jump_runs m z result ints0 a scope j (il h))
    statement_runs (return s None) a scope in_loop er il h =
        entered_statement m z result ints0 a (Here m z result ints0 scope) scope scope 4 (give (returned s.first (pos 0))) (λ pc. return_code (C scope) a s.first None) (omega arith)
        (subst (λ q. here a scope scope 4 (give (returned s.first (pos 0))) (λ pc. leaves scope (a.inside ++ a.outside) ++ (zero_code (is_reference q) 0 0 ++ Op.Return (at_site s.first) ∷ []))) (sym er) (return_none_runs m z result ints0 a scope s.first))
    statement_runs (return s (Some e)) a scope in_loop er il h =
        entered_statement m z result ints0 a (Here m z result ints0 scope) scope scope 1 (fitting result e (E e) >>= λ v. give (returned s.first v)) (λ pc. return_code (C scope) a s.first (Some e)) (omega arith)
        (subst (λ q. here a scope scope 1 (fitting result e (E e) >>= λ v. give (returned s.first v)) (λ pc. X scope e (int_count scope) (ref_count scope) ++ (width_code (int_count scope) q (span_of e).first ++ (leaves scope (a.inside ++ a.outside) ++ (result_code (is_reference q) (int_count scope) (ref_count scope) ++ Op.Return (at_site s.first) ∷ []))))) (sym er)
        (λ pc c ints refs u k has st rest. let code_is = append_assoc (X scope e (int_count scope) (ref_count scope)) (width_code (int_count scope) result (span_of e).first) (leaves scope (a.inside ++ a.outside) ++ (result_code (is_reference result) (int_count scope) (ref_count scope) ++ Op.Return (at_site s.first) ∷ [])) in
        return_value_runs m z result ints0 a scope s.first (K e) (fitting result e (E e)) (λ i r. X scope e i r ++ width_code i result (span_of e).first) h.1.0 h.1.2 (fitting_runs m z scope result (K e) e (E e) (X scope e) h.1.2 (eval_runs m z scope on_call n calls_as is room e h.0))
        pc c ints refs u k (subst (HasAt z.flat.lines pc) (sym code_is) has) st (subst (λ l. After m z result ints0 a (Here m z result ints0 scope) (pc + length l) scope c k) (sym code_is) rest)))
    statement_runs (if_then s e x) a scope in_loop er il h =
        entered_statement m z result ints0 a (Here m z result ints0 scope) scope scope 0 (tested m.typed e (E e) >>= λ b. cond b (exec on_call m result x) (give next)) (λ pc. if_code pc (turn_code (C scope) (Some e)) (λ at. statement_code (C scope) a at x)) (omega arith)
        (if_runs m z result ints0 a scope (tested m.typed e (E e)) (turn_code (C scope) (Some e)) (exec on_call m result x) (λ at. statement_code (C scope) a at x) (decides_one scope e h.0)
        (subst (λ (q : Context). Runs1 a scope q.scope (exec on_call m result x) (λ pc. statement_code (C scope) a pc x)) (stays scope x h.2) (statement_runs x a scope in_loop er il h.1)) (turn_length (C scope) (Some e)))
    statement_runs (if_then_else s e x y) a scope in_loop er il h =
        entered_statement m z result ints0 a (Here m z result ints0 scope) scope scope 0 (tested m.typed e (E e) >>= λ b. cond b (exec on_call m result x) (exec on_call m result y)) (λ pc. choice_code pc (turn_code (C scope) (Some e)) (λ at. statement_code (C scope) a at x) (λ at. statement_code (C scope) a at y)) (omega arith)
        (choice_runs m z result ints0 a scope (tested m.typed e (E e)) (turn_code (C scope) (Some e)) (exec on_call m result x) (exec on_call m result y) (λ at. statement_code (C scope) a at x) (λ at. statement_code (C scope) a at y) (decides_one scope e h.0)
        (subst (λ (q : Context). Runs1 a scope q.scope (exec on_call m result x) (λ pc. statement_code (C scope) a pc x)) (stays scope x h.3) (statement_runs x a scope in_loop er il h.1))
        (subst (λ (q : Context). Runs1 a scope q.scope (exec on_call m result y) (λ pc. statement_code (C scope) a pc y)) (stays scope y h.4) (statement_runs y a scope in_loop er il h.2)) (turn_length (C scope) (Some e)))
    statement_runs (while s e x) a scope in_loop er il h =
        entered_statement m z result ints0 a (Here m z result ints0 scope) scope scope 1 (loop (tested m.typed e (E e)) done (exec on_call m result x)) (λ pc. loop_code pc [] (turn_code (C scope) (Some e)) (λ at. statement_code (C scope) (looping a (pc + 1) (pc + 2)) at x)) (omega arith)
        (while_runs a scope e (exec on_call m result x) (λ pc at. statement_code (C scope) (looping a (pc + 1) (pc + 2)) at x) h.0
        (λ pc. subst (λ (q : Context). Runs1 (looping a (pc + 1) (pc + 2)) scope q.scope (exec on_call m result x) (λ at. statement_code (C scope) (looping a (pc + 1) (pc + 2)) at x)) (stays scope x h.2) (statement_runs x (looping a (pc + 1) (pc + 2)) scope true er (λ t b. omega arith) h.1)))
    statement_runs (for s h x) a scope in_loop er il w =
        let sc = scope ++ first_more h.first in
        let fc = first_code (C scope) h.first in
        let same : in_first (C scope) h.first ≡ C sc = in_first_is scope h.first ∙ first_is scope h.first in
        let run = in_block (done_first on_call m h.first >> loop (done_test on_call m h.test) (done_step on_call m h.step) (exec on_call m result x)) in
        entered_statement m z result ints0 a (Here m z result ints0 scope) scope scope 1 run
        (λ pc. (fc ++ loop_code (pc + length fc) (step_code (behind_first (C scope) h.first) h.step) (turn_code (behind_first (C scope) h.first) h.test)
        (λ at. statement_code (behind_first (C scope) h.first) (looping (opened (C scope) a) (pc + length fc + 1) (pc + length fc + 2)) at x)) ++ ends_from (behind_first (C scope) h.first).scope (length scope)) (omega arith)
        (subst (λ (q : Context). here a scope scope 1 run
        (λ pc. (fc ++ loop_code (pc + length fc) (step_code q h.step) (turn_code q h.test) (λ at. statement_code q (looping (opened (C scope) a) (pc + length fc + 1) (pc + length fc + 2)) at x)) ++ ends_from q.scope (length scope))) (sym (first_is scope h.first))
        (for_runs a scope (first_more h.first) h.first h.test h.step (exec on_call m result x) (λ pc at. statement_code (C sc) (looping (opened (C scope) a) (pc + length fc + 1) (pc + length fc + 2)) at x) refl w.0
        (subst (λ q. IfThere (TestSuits q) h.test) same w.1) (subst (λ q. IfThere (SimpleSuits q) h.step) same w.2)
        (λ pc. subst (λ (q : Context). Runs1 (looping (opened (C scope) a) (pc + length fc + 1) (pc + length fc + 2)) sc q.scope (exec on_call m result x) (λ at. statement_code (C sc) (looping (opened (C scope) a) (pc + length fc + 1) (pc + length fc + 2)) at x)) (stays sc x w.4)
        (statement_runs x (looping (opened (C scope) a) (pc + length fc + 1) (pc + length fc + 2)) sc true er (λ t b. omega arith) (subst (λ q. StatementSuits q result true x) same w.3)))))

    pub statements_run : (all : Statements) (a : Around) (scope : List Slot) (in_loop : Bool) → a.result ≡ result → (in_loop ≡ true → a.broken ≡ 0 → ⊥) → StatementsSuit (C scope) result in_loop all
        → StatementAs m z result ints0 a (Beyond m z result ints0 scope) scope (behind_statements (C scope) all).scope 1 (exec_all on_call m result all) (λ pc. statements_code (C scope) a pc all)
    statements_run no_statements a scope in_loop er il h = no_more m z result ints0 a scope
    statements_run (statement x rest) a scope in_loop er il h =
        subst (λ (q : Context). StatementAs m z result ints0 a (Beyond m z result ints0 scope) scope (behind_statements q rest).scope 1 (exec_all on_call m result (statement x rest)) (λ pc. statement_code (C scope) a pc x ++ statements_code q a (pc + length (statement_code (C scope) a pc x)) rest)) (sym (behind_is scope x))
        (one_more m z result ints0 a scope (declared_by x) (behind_statements (C (scope ++ declared_by x)) rest).scope (exec on_call m result x) (exec_all on_call m result rest) (λ pc. statement_code (C scope) a pc x) (λ pc. statements_code (C (scope ++ declared_by x)) a pc rest)
        (subst (λ (q : Context). Runs1 a scope q.scope (exec on_call m result x) (λ pc. statement_code (C scope) a pc x)) (behind_is scope x) (statement_runs x a scope in_loop er il h.0))
        (statements_run rest a (scope ++ declared_by x) in_loop er il (subst (λ q. StatementsSuit q result in_loop rest) (in_is scope x ∙ behind_is scope x) h.1)))
