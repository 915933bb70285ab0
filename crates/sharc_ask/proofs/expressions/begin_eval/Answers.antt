use Rattle.sharc_ask.proofs.{Imports.{view_expr, view_state, gives, number, eval}, Outs.entered_plans}
use Rattle.sharc_ask.proofs.expressions.begin_eval.Goals as goal

pub returns-clause-means : goal.returns-clause-means
returns-clause-means c = λ on_call.
    entered_plans on_call c.args.program.now (view_state c.args.st.now) (view_state c.enter.new.st) (view_state c.eval_plan.new.st) c.in_ok-enter.field-0 c.eval_plan.result (gives number (eval on_call c.args.program.now (view_expr c.args.expr.now))) c.in_ok-enter.ensures.does (c.eval_plan.ensures.means on_call)
