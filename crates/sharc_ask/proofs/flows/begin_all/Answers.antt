use Rattle.sharc_ask.proofs.{Imports.{◌≡◌, ◌-◌, ◌+◌, ◌*◌, ◌≤◌, ◌∷◌, length, take, arith, sym, ap, ◌∙◌, IfOk-weaker, drop, view_stmt, view_statements, view_kind, then_on, exec, exec_all, view_state, flow, flow_in, gives, others_done, Begins, size}, Flowing.{first_and_rest, all_begins}, Outs.same_plans}
use Rattle.sharc_ask.proofs.flows.begin_all.Goals as goal

pub returns-in-len1-up-clause-means : goal.returns-in-len1-up-clause-means
returns-in-len1-up-clause-means c = λ on_call m.
    let kind = view_kind c.args.kind in
    let list = c.args.all.now in
    let a = c.statement-item.result in
    let more = take (length list - 1) (drop 1 list) in
    let same : list ≡ a ∷ more = first_and_rest list a c.in-len1-up.len_at_least c.statement-item.is in
    same_plans on_call m (view_state c.args.st.now) (view_state c.begin_statement.new.st) c.begin_statement.result (gives flow (exec_all on_call m kind (view_statements list)))
    (λ s. then_on (gives flow (exec on_call m kind (view_stmt a)) s) (λ v. gives flow (others_done on_call m kind more (flow_in v)))) (λ s is. all_begins on_call m kind list a more s same) (c.begin_statement.ensures.means on_call m)

pub returns-in-len1-up-clause-begins : goal.returns-in-len1-up-clause-begins
returns-in-len1-up-clause-begins c =
    IfOk-weaker c.begin_statement.result (λ p. 64 * c.begin_statement.new.st.fuel + size p + 45 ≤ 64 * c.args.st.now.fuel + 3) (Begins 1 c.args.st.now.fuel c.begin_statement.new.st.fuel) (λ p h. record { falls = omega (arith, h) }) c.begin_statement.ensures.begins
