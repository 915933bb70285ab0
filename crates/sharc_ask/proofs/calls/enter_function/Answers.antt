use Rattle.sharc_ask.proofs.{Imports.{◌≡◌, Ok, Err, Some, sym, ap, ◌∙◌, subst, rules, count_by, Declaration, view_function, view_statements, declared_kind, is_pointer, calls, run_function, parameters_begin, pointers_passed, then_on, give, exec_all, view_state, Does, Caller, WasKept, flow, gives, as_left, stack_of, Moves, Plan, Rest, Task}, Calling.{enters_function, begin_ends, enter_ends}}
use Rattle.sharc_ask.proofs.calls.enter_function.Goals as goal

pub returns-in_ok-enter-in-Some-clause-moves : goal.returns-in_ok-enter-in-Some-clause-moves
returns-in_ok-enter-in-Some-clause-moves c = λ m.
    let f = view_function c.args.function.now in
    let n = c.args.frames in
    let kept = c.in-Some.kept in
    let caller : Caller = record { function = c.args.function; kept = kept } in
    let k = view_state c.args.st.now in
    let mid = view_state c.push_frame.new.st in
    let k1 = view_state c.begin_parameters.new.st in
    let moved : c.pointers_passed.result ≡ pointers_passed f = c.pointers_passed.ensures.count ∙ ap (λ z. count_by (λ (d : Declaration). is_pointer (declared_kind d.written)) z) c.as_slice.ensures in
    let here : WasKept (pointers_passed f) k mid (Some (kept.frame.variables.items, kept.frame.temporaries.items, kept.below.items)) = subst (λ z. WasKept z k mid (Some (kept.frame.variables.items, kept.frame.temporaries.items, kept.below.items))) moved c.in-Some.ensures.kept in
    let began : Does {A = Unit {0}} mid (Ok c.in_ok-begin_parameters-in-Some.field-0) k1 (parameters_begin f.parameters c.args.values.now) = subst (λ z. Does {A = Unit {0}} mid (Ok c.in_ok-begin_parameters-in-Some.field-0) k1 (parameters_begin z c.args.values.now)) c.as_slice-in-Some.ensures c.in_ok-begin_parameters-in-Some.ensures.does in
    enters_function m n caller c.args.values.now k mid k1 (view_state c.enter.new.st) (stack_of c.args.stack.now) (stack_of c.push.new.stack) (Plan.Goes (Task.All c.declared_kind-kind.result c.as_slice-in-Some-2.result) Rest.Same) c.in_ok-begin_parameters-in-Some.field-0 c.in_ok-enter-in-Some.field-0 c.in_ok-push-in-Some.ensures.pushed here began c.in_ok-enter-in-Some.ensures.does
    (λ s. ap (λ z. then_on (gives flow (exec_all (calls m n) m z (view_statements c.as_slice-in-Some-2.result.now)) s) (λ x. give x)) c.declared_kind-kind.ensures ∙ ap (λ z. then_on (gives flow (exec_all (calls m n) m (declared_kind f.result) (view_statements z)) s) (λ x. give x)) c.as_slice-in-Some-2.ensures.value)

pub returns-in_err-begin_parameters-in-Some-clause-moves : goal.returns-in_err-begin_parameters-in-Some-clause-moves
returns-in_err-begin_parameters-in-Some-clause-moves c = λ m.
    let f = view_function c.args.function.now in
    let kept = c.in-Some.kept in
    let end = c.in_err-begin_parameters-in-Some.field-0.0 in
    let over : c.from_residual-in_err-begin_parameters-in-Some.result ≡ Err end = search rules in
    let k = view_state c.args.st.now in
    let mid = view_state c.push_frame.new.st in
    let k1 = view_state c.begin_parameters.new.st in
    let stack1 = stack_of c.push.new.stack in
    let run = gives as_left (run_function (calls m c.args.frames) m f c.args.values.now) in
    let moved : c.pointers_passed.result ≡ pointers_passed f = c.pointers_passed.ensures.count ∙ ap (λ z. count_by (λ (d : Declaration). is_pointer (declared_kind d.written)) z) c.as_slice.ensures in
    let here : WasKept (pointers_passed f) k mid (Some (kept.frame.variables.items, kept.frame.temporaries.items, kept.below.items)) = subst (λ z. WasKept z k mid (Some (kept.frame.variables.items, kept.frame.temporaries.items, kept.below.items))) moved c.in-Some.ensures.kept in
    let began : Does {A = Unit {0}} mid (Err end) k1 (parameters_begin f.parameters c.args.values.now) = subst (λ z. Does {A = Unit {0}} mid (Err end) k1 (parameters_begin z c.args.values.now)) c.as_slice-in-Some.ensures c.in_err-begin_parameters-in-Some.ensures.does in
    subst (λ r. Moves m k (stack_of c.args.stack.now) r k1 stack1 run) (sym over)
    (begin_ends m c.args.frames f c.args.values.now k mid k1 kept.frame.variables.items kept.frame.temporaries.items kept.below.items (stack_of c.args.stack.now) stack1 end here began)

pub returns-in_err-enter-in-Some-clause-moves : goal.returns-in_err-enter-in-Some-clause-moves
returns-in_err-enter-in-Some-clause-moves c = λ m.
    let f = view_function c.args.function.now in
    let kept = c.in-Some.kept in
    let end = c.in_err-enter-in-Some.field-0.0 in
    let over : c.from_residual-in_err-enter-in-Some.result ≡ Err end = search rules in
    let k = view_state c.args.st.now in
    let mid = view_state c.push_frame.new.st in
    let k1 = view_state c.begin_parameters.new.st in
    let stack1 = stack_of c.push.new.stack in
    let run = gives as_left (run_function (calls m c.args.frames) m f c.args.values.now) in
    let moved : c.pointers_passed.result ≡ pointers_passed f = c.pointers_passed.ensures.count ∙ ap (λ z. count_by (λ (d : Declaration). is_pointer (declared_kind d.written)) z) c.as_slice.ensures in
    let here : WasKept (pointers_passed f) k mid (Some (kept.frame.variables.items, kept.frame.temporaries.items, kept.below.items)) = subst (λ z. WasKept z k mid (Some (kept.frame.variables.items, kept.frame.temporaries.items, kept.below.items))) moved c.in-Some.ensures.kept in
    let began : Does {A = Unit {0}} mid (Ok c.in_ok-begin_parameters-in-Some.field-0) k1 (parameters_begin f.parameters c.args.values.now) = subst (λ z. Does {A = Unit {0}} mid (Ok c.in_ok-begin_parameters-in-Some.field-0) k1 (parameters_begin z c.args.values.now)) c.as_slice-in-Some.ensures c.in_ok-begin_parameters-in-Some.ensures.does in
    subst (λ r. Moves m k (stack_of c.args.stack.now) r (view_state c.enter.new.st) stack1 run) (sym over)
    (enter_ends m c.args.frames f c.args.values.now k mid k1 (view_state c.enter.new.st) kept.frame.variables.items kept.frame.temporaries.items kept.below.items (stack_of c.args.stack.now) stack1 end c.in_ok-begin_parameters-in-Some.field-0 here began c.in_err-enter-in-Some.ensures.does)
