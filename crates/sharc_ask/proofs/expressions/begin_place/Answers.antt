use Rattle.sharc_ask.proofs.{Imports.{Ok, view_expr, view_state, gives, place, inside, place_of}, Outs.{entered_plans, lead_plans}}
use Rattle.sharc_ask.proofs.expressions.begin_place.Goals as goal

pub returns-clause-means : goal.returns-clause-means
returns-clause-means c = λ on_call.
    let k = view_state c.enter.new.st in
    let run = gives place (place_of on_call c.args.program.now c.args.site (view_expr c.args.expr.now)) in
    entered_plans on_call c.args.program.now (view_state c.args.st.now) k k c.in_ok-enter.field-0 (Ok c.place_plan.result) run c.in_ok-enter.ensures.does (lead_plans on_call c.args.program.now k c.place_plan.result (inside run) (λ s is. c.place_plan.ensures.means on_call s))
