use Rattle.sharc_ask.proofs.{Imports.{ap, ◌∙◌, view_state, gives, number, view_expr, view_right, view_option, malloc, view_kind, view_sharing, eval, right_value}, Outs.same_plans, Stating.fit_begins}
use Rattle.sharc_ask.proofs.statements.begin_right.Goals as goal

pub returns-in-Value-clause-means : goal.returns-in-Value-clause-means
returns-in-Value-clause-means c = λ on_call s is.
    record {
      state = s;
      is = ap (λ x. gives number (right_value on_call c.args.program.now (view_kind c.args.kind) (view_sharing c.args.target) (view_right x)) s) c.in-Value.is ∙ fit_begins (view_kind c.args.kind) (view_expr c.in-Value.e) (eval on_call c.args.program.now (view_expr c.in-Value.e)) s;
      looks = is;
    }

pub returns-in-Malloc-clause-means : goal.returns-in-Malloc-clause-means
returns-in-Malloc-clause-means c = λ on_call.
    let m = c.args.program.now in
    let kind = view_kind c.args.kind in
    let target = view_sharing c.args.target in
    let w = c.in-Malloc in
    same_plans on_call m (view_state c.args.st.now) (view_state c.begin_malloc.new.st) c.begin_malloc.result (gives number (right_value on_call m kind target (view_right c.args.right.now))) (gives number (right_value on_call m kind target (malloc w.span (view_option view_expr w.count) w.written)))
    (λ s is. ap (λ x. gives number (right_value on_call m kind target (view_right x)) s) w.is) (c.begin_malloc.ensures.means on_call kind)
