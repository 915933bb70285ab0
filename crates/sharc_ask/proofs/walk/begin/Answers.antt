use Rattle.sharc_ask.proofs.{Imports.{◌≡◌, Ok, sym, subst, view_state, task_means, Plans, Task}, Outs.lead_plans}
use Rattle.sharc_ask.proofs.walk.begin.Goals as goal

pub returns-in-Entered-clause-means : goal.returns-in-Entered-clause-means
returns-in-Entered-clause-means c = λ on_call.
    let m = c.args.program.now in
    let k = view_state c.args.st.now in
    let w = c.in-Entered in
    subst (λ z. Plans on_call m k (Ok c.entered_plan.result) k (task_means on_call m z)) (sym w.is)
    (lead_plans on_call m k c.entered_plan.result (task_means on_call m (Task.Entered w.kind w.statement)) (c.entered_plan.ensures.means on_call m))
