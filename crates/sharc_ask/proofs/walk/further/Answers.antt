use Rattle.sharc_ask.proofs.{Imports.{◌≡◌, Err, sym, subst, rules, Moves, Steps}, Stacking.step_ends}
use Rattle.sharc_ask.proofs.walk.further.Goals as goal

pub returns-in_err-at-clause-steps : goal.returns-in_err-at-clause-steps
returns-in_err-at-clause-steps c = λ m before after stack stack1 run h.
    let end = c.in_err-at.field-0.0 in
    let over : c.from_residual.result ≡ Err end = search rules in
    subst (λ r. Steps m before stack r after stack1 run) (sym over) (step_ends m before after end stack stack1 run (subst (λ a. Moves m before stack a after stack1 run) c.in_err-at.was h))
