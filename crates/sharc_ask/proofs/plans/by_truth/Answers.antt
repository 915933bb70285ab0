use Rattle.sharc_ask.proofs.{Imports.{◌≡◌, true, false, Bool, Result, Ok, Err, refl, sym, ap, ◌∙◌, subst, rules, if◌then◌else◌, RunEnd, Does, test_then, plan_means, Plans}, Outs.{truth_plans, step_over}}
use Rattle.sharc_ask.proofs.plans.by_truth.Goals as goal

abbrev ok_of : Bool → Result Bool RunEnd
ok_of b = Ok b

pub returns-then-is_true-clause-means : goal.returns-then-is_true-clause-means
returns-then-is_true-clause-means c = λ on_call m before after run h. truth_plans on_call m before after true c.args.yes c.args.yes c.args.no run refl (subst (λ a. Does before a after run) (c.in_ok-is_true.was ∙ ap (λ (b : Bool). ok_of b) c.if-is_true.true) h)

pub returns-else-is_true-clause-means : goal.returns-else-is_true-clause-means
returns-else-is_true-clause-means c = λ on_call m before after run h. truth_plans on_call m before after false c.args.no c.args.yes c.args.no run refl (subst (λ a. Does before a after run) (c.in_ok-is_true.was ∙ ap (λ (b : Bool). ok_of b) c.if-is_true.false) h)

pub returns-in_err-is_true-clause-means : goal.returns-in_err-is_true-clause-means
returns-in_err-is_true-clause-means c = λ on_call m before after run h.
    let is : c.from_residual.result ≡ Err c.in_err-is_true.field-0.0 = search rules in
    subst (λ r. Plans on_call m before r after (test_then run (plan_means on_call m c.args.yes) (plan_means on_call m c.args.no))) (sym is)
    (step_over on_call m before after c.in_err-is_true.field-0.0 run (λ z. if z then plan_means on_call m c.args.yes else plan_means on_call m c.args.no) (subst (λ a. Does before a after run) c.in_err-is_true.was h))
