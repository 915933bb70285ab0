use Rattle.sharc_ask.proofs.{Imports.{◌≡◌, ℕ, arith, length, None, Some, sym, ap, ◌∙◌, subst, refl, view_block, Statement, empty, block, declare, simple, jump, return, if_then, if_then_else, while, for, view_expr, view_option, view_simple, view_local, view_first, view_head, view_stmt, view_statements, view_kind, tested, eval, State, go, Run, then_on, give, Flow, next, declared, done_simple, done_first, done_test, done_step, return_with, turns, loop, exec, exec_all, Known, test_of_loop, step_of_loop, body_of_loop, Value, flow, gives, as_nothing, inside, ends_block, chosen_done}, Flowing.{test_then, step_then, block_begins, for_begins}, Stating.out_given}
use Rattle.sharc_ask.proofs.flows.entered_plan.Goals as goal

pub returns-in-Empty-clause-means : goal.returns-in-Empty-clause-means
returns-in-Empty-clause-means c = λ on_call m s is.
    ap (λ a. inside (gives flow (exec on_call m (view_kind c.args.kind) (view_stmt a))) s) c.in-Empty.is

pub returns-in-Block-clause-means : goal.returns-in-Block-clause-means
returns-in-Block-clause-means c = λ on_call m s is.
    let of : Statement → _ = λ a. inside (gives flow (exec on_call m (view_kind c.args.kind) a)) s in
    let same : view_stmt c.args.statement.now ≡ block c.in-Block.field-0 (view_statements c.as_slice.result.now) = view_block c.args.statement.now c.in-Block.field-0 c.in-Block.all c.in-Block.is ∙ ap (λ z. block c.in-Block.field-0 (view_statements z)) (sym c.as_slice.ensures.value) in
    let many : length s.frame.variables ≡ c.len-mark.result = ap (λ (z : Known). length z.variables) is ∙ omega (arith, c.len-mark.ensures) in
    ap of same ∙ block_begins (exec_all on_call m (view_kind c.args.kind) (view_statements c.as_slice.result.now)) c.len-mark.result s many

pub returns-in-Declare-clause-means : goal.returns-in-Declare-clause-means
returns-in-Declare-clause-means c = λ on_call m s is.
    let of : Statement → _ = λ a. inside (gives flow (exec on_call m (view_kind c.args.kind) a)) s in
    let same : view_stmt c.args.statement.now ≡ declare c.in-Declare.field-0 (view_local c.deref.result.now) = ap view_stmt c.in-Declare.is ∙ ap (λ z. declare c.in-Declare.field-0 (view_local z)) (sym c.deref.ensures) in
    ap of same ∙ step_then (declared on_call m (view_local c.deref.result.now)) (give next) s

pub returns-in-Simple-clause-means : goal.returns-in-Simple-clause-means
returns-in-Simple-clause-means c = λ on_call m s is.
    let of : Statement → _ = λ a. inside (gives flow (exec on_call m (view_kind c.args.kind) a)) s in
    let same : view_stmt c.args.statement.now ≡ simple c.in-Simple.field-0 (view_simple c.deref-in-Simple.result.now) = ap view_stmt c.in-Simple.is ∙ ap (λ z. simple c.in-Simple.field-0 (view_simple z)) (sym c.deref-in-Simple.ensures) in
    ap of same ∙ step_then (done_simple on_call m (view_simple c.deref-in-Simple.result.now)) (give next) s

pub returns-in-Jump-clause-means : goal.returns-in-Jump-clause-means
returns-in-Jump-clause-means c = λ on_call m s is.
    let of : Statement → _ = λ a. inside (gives flow (exec on_call m (view_kind c.args.kind) a)) s in
    ap of (ap view_stmt c.in-Jump.is) ∙ ap (λ (f : Flow). go (flow f) s) (sym c.left_by.ensures)

pub returns-in-Return-clause-means : goal.returns-in-Return-clause-means
returns-in-Return-clause-means c = λ on_call m s is.
    let of : Statement → _ = λ a. inside (gives flow (exec on_call m (view_kind c.args.kind) a)) s in
    let e = view_option (λ b. view_expr b.value) c.in-Return.value in
    ap of (ap view_stmt c.in-Return.is) ∙ out_given (gives flow (return_with on_call m (view_kind c.args.kind) c.in-Return.span.first e) s)

pub returns-in-If-clause-means : goal.returns-in-If-clause-means
returns-in-If-clause-means c = λ on_call m s is.
    let of : Statement → _ = λ a. inside (gives flow (exec on_call m (view_kind c.args.kind) a)) s in
    let e = view_expr c.deref-in-If.result.now in
    let a = view_stmt c.deref-in-If-2.result.now in
    let same : view_stmt c.args.statement.now ≡ if_then c.in-If.field-0 e a = ap view_stmt c.in-If.is ∙ ap (λ z. if_then c.in-If.field-0 (view_expr z) (view_stmt c.in-If.body.value)) (sym c.deref-in-If.ensures) ∙ ap (λ z. if_then c.in-If.field-0 e (view_stmt z)) (sym c.deref-in-If-2.ensures) in
    ap of same ∙ test_then (tested m.typed e (eval on_call m e)) (chosen_done on_call m (view_kind c.args.kind) a None) s

pub returns-in-IfElse-clause-means : goal.returns-in-IfElse-clause-means
returns-in-IfElse-clause-means c = λ on_call m s is.
    let of : Statement → _ = λ a. inside (gives flow (exec on_call m (view_kind c.args.kind) a)) s in
    let w = c.in-IfElse in
    let e = view_expr c.deref-in-IfElse.result.now in
    let a = view_stmt c.deref-in-IfElse-2.result.now in
    let b = view_stmt c.deref-in-IfElse-3.result.now in
    let same : view_stmt c.args.statement.now ≡ if_then_else w.span e a b =
    ap view_stmt w.is ∙ ap (λ z. if_then_else w.span (view_expr z) (view_stmt w.then.value) (view_stmt w.otherwise.value)) (sym c.deref-in-IfElse.ensures)
    ∙ ap (λ z. if_then_else w.span e (view_stmt z) (view_stmt w.otherwise.value)) (sym c.deref-in-IfElse-2.ensures) ∙ ap (λ z. if_then_else w.span e a (view_stmt z)) (sym c.deref-in-IfElse-3.ensures) in
    ap of same ∙ test_then (tested m.typed e (eval on_call m e)) (chosen_done on_call m (view_kind c.args.kind) a (Some b)) s

pub returns-in-While-clause-means : goal.returns-in-While-clause-means
returns-in-While-clause-means c = λ on_call m s is.
    let w = c.in-While in
    let looped : ℕ → Statement → Run Flow = λ n a. turns n (done_test on_call m (test_of_loop a)) (done_step on_call m (step_of_loop a)) (exec on_call m (view_kind c.args.kind) (body_of_loop a)) in
    let fuel : s.fuel ≡ c.args.st.now.fuel = ap (λ (z : Known). z.fuel) is in
    let loops : Statement = while w.field-0 (view_expr w.field-1.value) (view_stmt w.field-2.value) in
    let same : (view_stmt c.args.statement.now) ≡ loops = ap view_stmt w.is in
    subst (λ a. inside (gives flow (exec on_call m (view_kind c.args.kind) a)) s ≡ then_on (gives flow (looped c.args.st.now.fuel a) s) (λ v. give v)) (sym same)
    (ap (λ n. gives flow (looped n loops) s) fuel ∙ out_given (gives flow (looped c.args.st.now.fuel loops) s))

pub returns-in-For-clause-means : goal.returns-in-For-clause-means
returns-in-For-clause-means c = λ on_call m s is.
    let w = c.in-For in
    let h = view_head w.head.value in
    let looped : Statement → Run Flow = λ a. loop (done_test on_call m (test_of_loop a)) (done_step on_call m (step_of_loop a)) (exec on_call m (view_kind c.args.kind) (body_of_loop a)) in
    let many : length s.frame.variables ≡ c.len-mark.result = ap (λ (z : Known). length z.variables) is ∙ omega (arith, c.len-mark.ensures) in
    let same : view_stmt c.args.statement.now ≡ for w.field-0 h (view_stmt w.field-2.value) = ap view_stmt w.is in
    subst (λ a. inside (gives flow (exec on_call m (view_kind c.args.kind) a)) s ≡ then_on (gives as_nothing (done_first on_call m h.first) s) (λ v. gives flow (ends_block c.len-mark.result (looped a)))) (sym same)
    (for_begins (done_first on_call m h.first) (looped (for w.field-0 h (view_stmt w.field-2.value))) c.len-mark.result s many)
