use Rattle.sharc_ask.proofs.{Imports.{ap, ◌∙◌, view_state, made, gives, number, inside, pos, malloc, view_expr, view_option, view_sharing, right_value}, Outs.same_plans, Stating.made_begins}
use Rattle.sharc_ask.proofs.statements.counted.Goals as goal

pub returns-in-None-clause-means : goal.returns-in-None-clause-means
returns-in-None-clause-means c = λ on_call kind.
    let m = c.args.program.now in
    let target = view_sharing c.args.target in
    let run = made m.typed c.args.span.first target (pos 1) c.args.written.now in
    same_plans on_call m (view_state c.args.st.now) (view_state c.made.new.st) c.done_number.result (inside (gives number (right_value on_call m kind target (malloc c.args.span (view_option view_expr c.args.count.now) c.args.written.now)))) (gives number run)
    (λ s is. ap (λ o. inside (gives number (right_value on_call m kind target (malloc c.args.span (view_option view_expr o) c.args.written.now))) s) c.in-None.is) (c.done_number.ensures.means on_call m (view_state c.args.st.now) (view_state c.made.new.st) run c.made.ensures.does)

pub returns-in-Some-clause-means : goal.returns-in-Some-clause-means
returns-in-Some-clause-means c = λ on_call kind s is.
    record {
      state = s;
      is = ap (λ o. inside (gives number (right_value on_call c.args.program.now kind (view_sharing c.args.target) (malloc c.args.span (view_option view_expr o) c.args.written.now))) s) c.in-Some.is ∙ made_begins on_call c.args.program.now kind (view_sharing c.args.target) c.args.span (view_expr c.in-Some.e) c.args.written.now s;
      looks = is;
    }
