use Rattle.sharc_ask.proofs.{Imports.{◌≡◌, ◌+◌, ◌*◌, ◌≤◌, arith, sym, ap, ◌∙◌, IfOk-weaker, view_stmt, view_kind, exec, view_state, view_otherwise, other_done, flow, gives, chosen_done, Begins, size}, Outs.same_plans, Stating.out_given}
use Rattle.sharc_ask.proofs.flows.behind_choice.Goals as goal

pub returns-then-is_true-clause-means : goal.returns-then-is_true-clause-means
returns-then-is_true-clause-means c = λ on_call m.
    let kind = view_kind c.args.kind in
    let a = view_stmt c.args.body.now in
    same_plans on_call m (view_state c.args.st.now) (view_state c.begin_statement.new.st) c.begin_statement.result (gives flow (chosen_done on_call m kind a (view_otherwise c.args.otherwise) c.args.is_true)) _
    (λ s is. ap (λ z. gives flow (chosen_done on_call m kind a (view_otherwise c.args.otherwise) z) s) c.if-is_true.true ∙ out_given (gives flow (exec on_call m kind a) s)) (c.begin_statement.ensures.means on_call m)

pub returns-in-Some-clause-means : goal.returns-in-Some-clause-means
returns-in-Some-clause-means c = λ on_call m.
    let kind = view_kind c.args.kind in
    same_plans on_call m (view_state c.args.st.now) (view_state c.begin_statement-in-Some.new.st) c.begin_statement-in-Some.result (gives flow (chosen_done on_call m kind (view_stmt c.args.body.now) (view_otherwise c.args.otherwise) c.args.is_true)) _
    (λ s is. ap (λ z. gives flow (chosen_done on_call m kind (view_stmt c.args.body.now) (view_otherwise c.args.otherwise) z) s) c.if-is_true.false ∙ ap (λ o. gives flow (other_done on_call m kind (view_otherwise o)) s) c.in-Some.is ∙ out_given (gives flow (exec on_call m kind (view_stmt c.in-Some.otherwise.now)) s))
    (c.begin_statement-in-Some.ensures.means on_call m)

pub returns-in-None-clause-means : goal.returns-in-None-clause-means
returns-in-None-clause-means c = λ on_call m s is.
    record {
      state = s;
      is = ap (λ z. gives flow (chosen_done on_call m (view_kind c.args.kind) (view_stmt c.args.body.now) (view_otherwise c.args.otherwise) z) s) c.if-is_true.false ∙ ap (λ o. gives flow (other_done on_call m (view_kind c.args.kind) (view_otherwise o)) s) c.in-None.is;
      looks = is;
    }

pub returns-then-is_true-clause-begins : goal.returns-then-is_true-clause-begins
returns-then-is_true-clause-begins c =
    IfOk-weaker c.begin_statement.result (λ p. 64 * c.begin_statement.new.st.fuel + size p + 45 ≤ 64 * c.args.st.now.fuel + 1) (Begins 1 c.args.st.now.fuel c.begin_statement.new.st.fuel) (λ p h. record { falls = omega (arith, h) }) c.begin_statement.ensures.begins

pub returns-in-Some-clause-begins : goal.returns-in-Some-clause-begins
returns-in-Some-clause-begins c =
    IfOk-weaker c.begin_statement-in-Some.result (λ p. 64 * c.begin_statement-in-Some.new.st.fuel + size p + 45 ≤ 64 * c.args.st.now.fuel + 1) (Begins 1 c.args.st.now.fuel c.begin_statement-in-Some.new.st.fuel) (λ p h. record { falls = omega (arith, h) }) c.begin_statement-in-Some.ensures.begins
