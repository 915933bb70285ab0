use Rattle.sharc_ask.proofs.{Imports.{◌≡◌, sym, ap, ◌∙◌, view_simple, ◌>>◌, done_simple, done_step, view_step, flow, gives, turns_of}, Flowing.step_then, Stating.out_given}
use Rattle.sharc_ask.proofs.flows.next_turn.Goals as goal

pub returns-in-None-clause-means : goal.returns-in-None-clause-means
returns-in-None-clause-means c = λ on_call m s.
    let turns = turns_of on_call m c.args.l c.args.number in
    ap (λ o. gives flow (done_step on_call m o >> turns) s) (sym c.step_of.ensures ∙ ap view_step c.in-None.is) ∙ out_given (gives flow turns s)

pub returns-in-Some-clause-means : goal.returns-in-Some-clause-means
returns-in-Some-clause-means c = λ on_call m s.
    let turns = turns_of on_call m c.args.l c.args.number in
    ap (λ o. gives flow (done_step on_call m o >> turns) s) (sym c.step_of.ensures ∙ ap view_step c.in-Some.is) ∙ step_then (done_simple on_call m (view_simple c.in-Some.step.now)) turns s
