use Rattle.sharc_ask.proofs.{Imports.{view_option, view_right, view_local, ◌+◌, ◌*◌, ◌<◌, ◌≤◌, arith, IfOk-weaker, view_state, gives, as_nothing, Fits, Begins, size, step_then, plan_means, pos, begins_with, declared, initialised}, Outs.same_plans, Stating.step_begins}
use Rattle.sharc_ask.proofs.statements.begin_local.Goals as goal

pub returns-clause-means : goal.returns-clause-means
returns-clause-means c = λ on_call.
    let m = c.args.program.now in
    let l = c.args.local.now in
    let step = begins_with l.declaration (pos 0) in
    let run = initialised on_call m l.declaration (view_option view_right l.initial) in
    same_plans on_call m (view_state c.args.st.now) (view_state c.begin.new.st) c.then.result (gives as_nothing (declared on_call m (view_local l))) (step_then step (plan_means on_call m c.initial_plan.result))
    (λ s is. step_begins on_call m step as_nothing run c.initial_plan.result (c.initial_plan.ensures.means on_call) s) (c.then.ensures.means on_call m (view_state c.args.st.now) (view_state c.begin.new.st) step c.begin.ensures.does)

pub returns-clause-begins : goal.returns-clause-begins
returns-clause-begins c =
    let fuel = c.begin.ensures.fuel in
    IfOk-weaker c.then.result (Fits 4) (Begins 5 c.args.st.now.fuel c.begin.new.st.fuel) (λ p h. record { falls = omega (arith, fuel, h.within) }) (c.then.ensures.fits 4 c.initial_plan.ensures.fits)
