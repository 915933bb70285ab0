-- Calls: arguments that are left, a frame that is entered, and the way back.
use Rattle.sharc_ask.proofs.{Imports.{◌≡◌, ◌<◌, ◌+◌, arith, ℕ, zero, suc, ◌-◌, List, [], ◌∷◌, ◌++◌, length, Some, None, Result, Ok, Err, refl, sym, ap, ◌∙◌, subst, append-nil, append_assoc, ℤ, pos, drop, Bor, Site, Declaration, Expr, Function, Expression, Arguments, no_arguments, argument, view_expr, view_arguments, view_function, Trap, Kind, declared_kind, declared_kinds, function_at, Assignment, Variable, Calls, called, passed, eval, eval_all, with_frame, back_in, calls, call_value, run_function, parameters_begin, pointers_passed, left_at, Frame, State, Out, go, over, Run, Step, then_on, ◌>>=◌, ◌>>◌, give, enters, without_temporaries, ends_variables, ends_temporaries, Flow, exec_all, RunEnd, Known, known, Over, Does, held_below, Call, Plan, At, Caller, Left, PendingCall, WasKept, variables_ended, Value, number, flow, number_in, flow_in, gives, as_left, ends_above, rest_means, plan_means, Plans, PlanEnds, Behind, all_behind, IsCaller, AreBehind, awaits, comes_back, Reached, Moves, After, Rest, WithValue, Later}, Framing.{frame_begins, call_is}, Stacking.{bound_twice, reached_from, plan_reached}, Stating.argument_begins}

-- ---- a frame that is entered

-- the body of a function, and what comes behind it
body_then : (f : Function) (caller : Frame) (others : List Frame) (behind : List Behind) (out : Out Flow)
    → then_on (then_on (back_in caller others (ends_variables 0 (then_on out (λ z. give (left_at f z))))) (λ x. give (as_left x))) (all_behind behind)
    ≡ then_on (then_on (then_on out (λ x. give (flow x))) (λ v. give v)) (all_behind ((λ v. comes_back f caller others (flow_in v)) ∷ behind))
body_then f caller others behind (go z t) = refl
body_then f caller others behind (over o t) = refl

pub enters_function : (m : Assignment) (n : ℕ) (c : Caller) (vs : List ℤ) (k mid k1 k2 : Known) (stack stack1 : List Left) (p : Plan) (u v : Unit {0}) → stack1 ≡ record { frames = n; later = Later.Returns c } ∷ stack
    → WasKept (pointers_passed (view_function c.function.now)) k mid (Some (c.kept.frame.variables.items, c.kept.frame.temporaries.items, c.kept.below.items))
    → Does mid (Ok u) k1 (parameters_begin (view_function c.function.now).parameters vs) → Does k1 (Ok v) k2 enters
    → ((s : State) → plan_means (calls m n) m p s ≡ then_on (gives flow (exec_all (calls m n) m (declared_kind (view_function c.function.now).result) (view_function c.function.now).statements) s) (λ x. give x))
    → Moves m k stack (Ok (record { frames = n; plan = p })) k2 stack1 (gives as_left (run_function (calls m n) m (view_function c.function.now) vs))
enters_function m n c vs k mid k1 k2 stack stack1 p u v top kept begun entered plan = λ s behind is stands.
    let f = view_function c.function.now in
    let moved = pointers_passed f in
    let variables = c.kept.frame.variables.items in
    let temporaries = c.kept.frame.temporaries.items in
    let below = c.kept.below.items in
    let here : WasKept moved (known s) mid (Some (variables, temporaries, below)) = subst (λ b. WasKept moved b mid (Some (variables, temporaries, below))) (sym is) kept in
    let caller = without_temporaries moved s.frame in
    let first = begun (with_frame caller s) (frame_begins moved s mid variables temporaries below here) in
    let second = entered first.state first.looks in
    let body : Run Flow = exec_all (calls m n) m (declared_kind f.result) f.statements in
    let ends : Flow → Run (Site × ℤ) = λ z. give (left_at f z) in
    let outer : Out (Site × ℤ) → Out Value = λ o. then_on (then_on (back_in caller s.callers (ends_variables 0 o)) (λ x. give (as_left x))) (all_behind behind) in
    let back : Behind = λ x. comes_back f caller s.callers (flow_in x) in
    record {
      state = second.state;
      behind = back ∷ behind;
      is =
          ap (λ o. outer (then_on o (λ x. (enters >> body) >>= ends))) first.is
          ∙ ap (λ o. outer (then_on (then_on o (λ x. body)) ends)) second.is
          ∙ body_then f caller s.callers behind (body second.state)
          ∙ ap (λ o. then_on o (all_behind (back ∷ behind))) (sym (plan second.state));
      looks = second.looks;
      stands = subst (λ l. AreBehind m l (back ∷ behind)) (sym top) (record { caller = caller; others = s.callers; is = refl; variables = sym here.0; temporaries = sym here.1; below = sym here.2 }, stands);
    }

pub begin_ends : (m : Assignment) (n : ℕ) (f : Function) (vs : List ℤ) (k mid k1 : Known) (variables : List Variable) (temporaries below : List ℤ) (stack stack1 : List Left) (e : RunEnd) → WasKept (pointers_passed f) k mid (Some (variables, temporaries, below))
    → Does {A = Unit {0}} mid (Err e) k1 (parameters_begin f.parameters vs) → Moves m k stack (Err e) k1 stack1 (gives as_left (run_function (calls m n) m f vs))
begin_ends m n f vs k mid k1 variables temporaries below stack stack1 e kept begun = λ s behind is stands.
    let moved = pointers_passed f in
    let here : WasKept moved (known s) mid (Some (variables, temporaries, below)) = subst (λ b. WasKept moved b mid (Some (variables, temporaries, below))) (sym is) kept in
    let caller = without_temporaries moved s.frame in
    let body : Run Flow = exec_all (calls m n) m (declared_kind f.result) f.statements in
    let ends : Flow → Run (Site × ℤ) = λ z. give (left_at f z) in
    reached_from {A = Unit {0}} m e k1 stack1 (parameters_begin f.parameters vs (with_frame caller s)) (λ o. then_on (then_on (back_in caller s.callers (ends_variables 0 (then_on o (λ x. (enters >> body) >>= ends)))) (λ x. give (as_left x))) (all_behind behind)) (λ o t. refl)
    (begun (with_frame caller s) (frame_begins moved s mid variables temporaries below here))

pub enter_ends : (m : Assignment) (n : ℕ) (f : Function) (vs : List ℤ) (k mid k1 k2 : Known) (variables : List Variable) (temporaries below : List ℤ) (stack stack1 : List Left) (e : RunEnd) (u : Unit {0}) → WasKept (pointers_passed f) k mid (Some (variables, temporaries, below))
    → Does mid (Ok u) k1 (parameters_begin f.parameters vs) → Does {A = Unit {0}} k1 (Err e) k2 enters → Moves m k stack (Err e) k2 stack1 (gives as_left (run_function (calls m n) m f vs))
enter_ends m n f vs k mid k1 k2 variables temporaries below stack stack1 e u kept begun entered = λ s behind is stands.
    let moved = pointers_passed f in
    let here : WasKept moved (known s) mid (Some (variables, temporaries, below)) = subst (λ b. WasKept moved b mid (Some (variables, temporaries, below))) (sym is) kept in
    let caller = without_temporaries moved s.frame in
    let first = begun (with_frame caller s) (frame_begins moved s mid variables temporaries below here) in
    let body : Run Flow = exec_all (calls m n) m (declared_kind f.result) f.statements in
    let ends : Flow → Run (Site × ℤ) = λ z. give (left_at f z) in
    let outer : Out (Site × ℤ) → Out Value = λ o. then_on (then_on (back_in caller s.callers (ends_variables 0 o)) (λ x. give (as_left x))) (all_behind behind) in
    subst (Reached m (Err e) stack1 k2) (sym (ap (λ o. outer (then_on o (λ x. (enters >> body) >>= ends))) first.is))
    (reached_from {A = Unit {0}} m e k2 stack1 (enters first.state) (λ o. outer (then_on (then_on o (λ x. body)) ends)) (λ o t. refl) (entered first.state first.looks))

-- ---- the way back

pub comes_back_moves : (m : Assignment) (n : ℕ) (c : Caller) (fl : Flow) (left : Site × ℤ) (k k1 : Known) (stack : List Left) (f : Behind) (v : Value) (p : Plan) → IsCaller c f → flow_in v ≡ fl → left ≡ left_at (view_function c.function.now) fl
    → k1 ≡ record (variables_ended 0 k) { variables = c.kept.frame.variables.items; temporaries = c.kept.frame.temporaries.items; below = c.kept.below.items }
    → ((s : State) → plan_means (calls m n) m p s ≡ go (as_left left) s) → Moves m k stack (Ok (record { frames = n; plan = p })) k1 stack (f v)
comes_back_moves m n c fl left k k1 stack f v p w value_is left_is same plan = λ s behind is stands.
    let g = view_function c.function.now in
    let after : State = record s { frame = w.caller; callers = w.others; given_up = (variables_ended 0 (known s)).given_up } in
    let came : f v s ≡ go (as_left left) after =
    ap (λ (z : Behind). z v s) w.is ∙ ap (λ z. comes_back g w.caller w.others z s) value_is ∙ ap (λ z. go (as_left z) after) (sym left_is) in
    record {
      state = after;
      behind = behind;
      is = ap (λ o. then_on o (all_behind behind)) (came ∙ sym (plan after));
      looks =
          ap (λ (z : Known). record (variables_ended 0 z) { variables = w.caller.variables; temporaries = w.caller.temporaries; below = held_below w.others }) is
          ∙ ap (λ z. record (variables_ended 0 k) { variables = z; temporaries = w.caller.temporaries; below = held_below w.others }) w.variables
          ∙ ap (λ z. record (variables_ended 0 k) { variables = c.kept.frame.variables.items; temporaries = z; below = held_below w.others }) w.temporaries
          ∙ ap (λ z. record (variables_ended 0 k) { variables = c.kept.frame.variables.items; temporaries = c.kept.frame.temporaries.items; below = z }) w.below
          ∙ sym same;
      stands = stands;
    }

-- ---- as many frames as are allowed

result_then : (mark : ℕ) (behind : List Behind) (on_call : Calls) (m : Assignment) (out : Out (Site × ℤ))
    → then_on (then_on (ends_temporaries mark (then_on out (λ left. give left.1))) (λ x. give (number x))) (all_behind behind)
    ≡ then_on (then_on out (λ x. give (as_left x))) (all_behind (rest_means on_call m (Rest.After (After.Call mark)) ∷ behind))
result_then mark behind on_call m (go left t) = refl
result_then mark behind on_call m (over o t) = refl

pub call_moves : (m : Assignment) (n f : ℕ) (site : Site) (vs : List ℤ) (mark : ℕ) (g : Function) (k k1 : Known) (stack stack0 stack1 : List Left) (r : Result At RunEnd) → (n ≡ 0 → ⊥) → function_at m.typed f ≡ Some g
    → stack0 ≡ record { frames = n; later = Later.Rest (Rest.After (After.Call mark)) } ∷ stack
    → Moves m k stack0 r k1 stack1 (gives as_left (run_function (calls m (n - 1)) m g vs)) → Moves m k stack r k1 stack1 (gives number (ends_above mark (calls m n f site vs)))
call_moves m n f site vs mark g k k1 stack stack0 stack1 r some there top h = λ s behind is stands.
    let back = rest_means (calls m n) m (Rest.After (After.Call mark)) in
    let h1 : Moves m k (record { frames = n; later = Later.Rest (Rest.After (After.Call mark)) } ∷ stack) r k1 stack1 (gives as_left (run_function (calls m (n - 1)) m g vs)) = subst (λ z. Moves m k z r k1 stack1 (gives as_left (run_function (calls m (n - 1)) m g vs))) top h in
    subst (Reached m r stack1 k1)
    (sym (ap (λ (z : Run ℤ). then_on (gives number (ends_above mark z) s) (all_behind behind)) (call_is m n f site vs some ∙ ap (λ o. call_value (calls m (n - 1)) m o vs) there)
    ∙ result_then mark behind (calls m n) m (run_function (calls m (n - 1)) m g vs s)))
    (h1 s (back ∷ behind) is (refl, stands))

pub call_none_is : (m : Assignment) (n f : ℕ) (site : Site) (vs : List ℤ) → (n ≡ 0 → ⊥) → function_at m.typed f ≡ None → calls m n f site vs ≡ give (pos 0)
call_none_is m n f site vs some none = call_is m n f site vs some ∙ ap (λ o. call_value (calls m (n - 1)) m o vs) none

pub call_stops_moves : (m : Assignment) (n f : ℕ) (site : Site) (vs : List ℤ) (mark : ℕ) (k : Known) (stack stack1 : List Left) → n ≡ 0 → Moves m k stack (Err (RunEnd.Stopped Trap.CallDepth site)) k stack1 (gives number (ends_above mark (calls m n f site vs)))
call_stops_moves m n f site vs mark k stack stack1 none =
    subst (λ z. Moves m k stack (Err (RunEnd.Stopped Trap.CallDepth site)) k stack1 (gives number (ends_above mark (calls m z f site vs)))) (sym none) (λ s behind is stands. record { outcome = _; state = s; is = refl; ends_so = refl; looks = is })

-- ---- arguments

pub empty_is : {A : Type 0} (l : List A) → length l < 1 → l ≡ []
empty_is [] less = refl
empty_is (x ∷ l) less = absurd (omega (arith, less))

pub none_await : (on_call : Calls) (m : Assignment) (c : Call) (mark : ℕ) (kinds : List Kind) (values : List ℤ) → awaits on_call m c mark kinds no_arguments values ≡ gives number (ends_above mark (called on_call c.site c.named c.name.now values))
none_await on_call m c mark kinds values = ap (λ vs. gives number (ends_above mark (called on_call c.site c.named c.name.now vs))) (append-nil values)

more_then : (on_call : Calls) (m : Assignment) (c : Call) (mark : ℕ) (values : List ℤ) (x : ℤ) (out : Out (List ℤ))
    → then_on (then_on out (λ vs. give (x ∷ vs))) (λ more. called on_call c.site c.named c.name.now (values ++ more)) ≡ then_on out (λ more. called on_call c.site c.named c.name.now ((values ++ x ∷ []) ++ more))
more_then on_call m c mark values x (go vs t) = ap (λ l. called on_call c.site c.named c.name.now l t) (sym (append_assoc values (x ∷ []) vs))
more_then on_call m c mark values x (over o t) = refl

first_then : (on_call : Calls) (m : Assignment) (c : Call) (mark : ℕ) (kinds : List Kind) (rest : Arguments) (values : List ℤ) (behind : List Behind) (out : Out ℤ)
    → then_on (then_on (ends_temporaries mark (then_on (then_on out (λ v. eval_all on_call m kinds rest >>= (λ vs. give (v ∷ vs)))) (λ more. called on_call c.site c.named c.name.now (values ++ more)))) (λ x. give (number x))) (all_behind behind)
    ≡ then_on (then_on out (λ x. give (number x))) (all_behind ((λ v. awaits on_call m c mark kinds rest (values ++ number_in v ∷ [])) ∷ behind))
first_then on_call m c mark kinds rest values behind (go x t) = ap (λ o. then_on (then_on (ends_temporaries mark o) (λ y. give (number y))) (all_behind behind)) (more_then on_call m c mark values x (eval_all on_call m kinds rest t))
first_then on_call m c mark kinds rest values behind (over o t) = refl

pub more_moves : (m : Assignment) (n : ℕ) (c : Call) (mark : ℕ) (parameters rest_parameters : Bor (List Declaration)) (e : Bor Expr) (others : PendingCall) (k k1 : Known) (stack stack0 stack1 : List Left) (p : Plan)
    → declared_kinds rest_parameters.now ≡ drop 1 (declared_kinds parameters.now) → others.call ≡ c → others.mark ≡ mark → others.parameters ≡ rest_parameters
    → stack0 ≡ record { frames = n; later = Later.Passes others } ∷ stack → stack1 ≡ record { frames = n; later = Later.Rest (Rest.Value e (WithValue.Passed parameters)) } ∷ stack0
    → Plans (calls m n) m k (Ok p) k1 (gives number (eval (calls m n) m (view_expr e.now)))
    → Moves m k stack (Ok (record { frames = n; plan = p })) k1 stack1 (awaits (calls m n) m c mark (declared_kinds parameters.now) (argument (view_expr e.now) (view_arguments others.arguments.now)) others.values.items)
more_moves m n c mark parameters rest_parameters e others k k1 stack stack0 stack1 p kinds_are call_same mark_is parameters_are below top h = λ s behind is stands.
    let on_call = calls m n in
    let kinds = declared_kinds parameters.now in
    let x = view_expr e.now in
    let rest = view_arguments others.arguments.now in
    let values = others.values.items in
    let w = h s is in
    let pass : Behind = rest_means on_call m (Rest.Value e (WithValue.Passed parameters)) in
    let f0 : Call → ℕ → List Kind → Behind = λ c1 mark1 kinds1 v. awaits on_call m c1 mark1 kinds1 rest (values ++ number_in v ∷ []) in
    let f1 : Behind = f0 others.call others.mark (declared_kinds others.parameters.now) in
    let same : f0 c mark (drop 1 kinds) ≡ f1 =
    ap (λ z. f0 z mark (drop 1 kinds)) (sym call_same) ∙ ap (λ z. f0 others.call z (drop 1 kinds)) (sym mark_is) ∙ ap (λ z. f0 others.call others.mark z) (sym kinds_are ∙ ap (λ (z : Bor (List Declaration)). declared_kinds z.now) (sym parameters_are)) in
    record {
      state = w.state;
      behind = pass ∷ f1 ∷ behind;
      is =
          first_then on_call m c mark (drop 1 kinds) rest values behind (passed m.typed kinds x (eval on_call m x) s)
          ∙ ap (λ (z : Behind). then_on (gives number (passed m.typed kinds x (eval on_call m x)) s) (all_behind (z ∷ behind))) same
          ∙ ap (λ o. then_on o (all_behind (f1 ∷ behind))) (argument_begins m.typed kinds x (eval on_call m x) s)
          ∙ bound_twice (gives number (eval on_call m x) s) pass (all_behind (f1 ∷ behind))
          ∙ ap (λ o. then_on o (all_behind (pass ∷ f1 ∷ behind))) w.is;
      looks = w.looks;
      stands = subst (λ l. AreBehind m l (pass ∷ f1 ∷ behind)) (sym (top ∙ ap (λ l. record { frames = n; later = Later.Rest (Rest.Value e (WithValue.Passed parameters)) } ∷ l) below)) (refl, (refl, stands));
    }

pub more_ends : (m : Assignment) (n : ℕ) (c : Call) (mark : ℕ) (kinds : List Kind) (x : Expression) (rest : Arguments) (values : List ℤ) (k k1 : Known) (stack stack1 : List Left) (e : RunEnd) → Plans (calls m n) m k (Err e) k1 (gives number (eval (calls m n) m x))
    → Moves m k stack (Err e) k1 stack1 (awaits (calls m n) m c mark kinds (argument x rest) values)
more_ends m n c mark kinds x rest values k k1 stack stack1 e h = λ s behind is stands.
    let on_call = calls m n in
    let f1 : Behind = λ v. awaits on_call m c mark (drop 1 kinds) rest (values ++ number_in v ∷ []) in
    let pass : Behind = λ v. gives number (passed m.typed kinds x (give (number_in v))) in
    subst (Reached m (Err e) stack1 k1)
    (sym (first_then on_call m c mark (drop 1 kinds) rest values behind (passed m.typed kinds x (eval on_call m x) s)
    ∙ ap (λ o. then_on o (all_behind (f1 ∷ behind))) (argument_begins m.typed kinds x (eval on_call m x) s)
    ∙ bound_twice (gives number (eval on_call m x) s) pass (all_behind (f1 ∷ behind))))
    (plan_reached on_call m e k1 stack1 (gives number (eval on_call m x) s) (λ v. pass v >>= all_behind (f1 ∷ behind)) (h s is))
