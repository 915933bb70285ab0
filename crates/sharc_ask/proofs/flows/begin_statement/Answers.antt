use Rattle.sharc_ask.proofs.{Imports.{◌≡◌, Ok, Err, refl, sym, ap, subst, rules, view_stmt, view_kind, State, Run, then_on, ◌>>=◌, give, exec, view_state, Value, flow, gives, rest_means, Plans}, Outs.{entered_plans, entered_over}, Steps.exec_over}
use Rattle.sharc_ask.proofs.flows.begin_statement.Goals as goal

pub returns-clause-means : goal.returns-clause-means
returns-clause-means c = λ on_call m.
    let run : Run Value = gives flow (exec on_call m (view_kind c.args.kind) (view_stmt c.args.statement.now)) >>= rest_means on_call m c.args.rest in
    entered_plans on_call m (view_state c.args.st.now) (view_state c.enter.new.st) (view_state c.enter.new.st) c.in_ok-enter.field-0 (Ok _) run c.in_ok-enter.ensures.does (λ s is. record { state = s; is = refl; looks = is })

pub returns-in_err-enter-clause-means : goal.returns-in_err-enter-clause-means
returns-in_err-enter-clause-means c = λ on_call m.
    let end = c.in_err-enter.field-0.0 in
    let over : c.from_residual.result ≡ Err end = search rules in
    let run : Run Value = gives flow (exec on_call m (view_kind c.args.kind) (view_stmt c.args.statement.now)) >>= rest_means on_call m c.args.rest in
    subst (λ r. Plans on_call m (view_state c.args.st.now) r (view_state c.enter.new.st) run) (sym over)
    (entered_over on_call m (view_state c.args.st.now) (view_state c.enter.new.st) end run (λ s t o h. ap (λ z. then_on (then_on z (λ x. give (flow x))) (rest_means on_call m c.args.rest)) (exec_over on_call m (view_kind c.args.kind) (view_stmt c.args.statement.now) s t o h)) c.in_err-enter.ensures.does)
