use Rattle.sharc_ask.proofs.{Imports.{◌≡◌, ◌+◌, ◌*◌, ◌≤◌, arith, sym, ap, ◌∙◌, IfOk-weaker, view_kind, then_on, exec, view_state, flow, flow_in, gives, tested_done, left_body, Begins, size}, Flowing.turn_begins, Outs.same_plans}
use Rattle.sharc_ask.proofs.flows.behind_test.Goals as goal

pub returns-then-goes_on-clause-means : goal.returns-then-goes_on-clause-means
returns-then-goes_on-clause-means c = λ on_call m.
    let l = c.args.l in
    let n = c.args.number in
    same_plans on_call m (view_state c.args.st.now) (view_state c.begin_statement.new.st) c.begin_statement.result (gives flow (tested_done on_call m l n c.args.goes_on)) _
    (λ s is. turn_begins on_call m l n c.args.goes_on s c.if-goes_on.true ∙ ap (λ a. then_on (gives flow (exec on_call m (view_kind l.kind) a) s) (λ v. gives flow (left_body on_call m l n (flow_in v)))) (sym c.body_of.ensures)) (c.begin_statement.ensures.means on_call m)

pub returns-then-goes_on-clause-begins : goal.returns-then-goes_on-clause-begins
returns-then-goes_on-clause-begins c =
    IfOk-weaker c.begin_statement.result (λ p. 64 * c.begin_statement.new.st.fuel + size p + 45 ≤ 64 * c.args.st.now.fuel + 17) (Begins 1 c.args.st.now.fuel c.begin_statement.new.st.fuel) (λ p h. record { falls = omega (arith, h) }) c.begin_statement.ensures.begins
