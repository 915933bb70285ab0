use Rattle.sharc_wants_laws.proofs.{Imports.{ap, ◌∙◌, events_of}, Beginning.begins_by_right}
use Rattle.sharc_wants_laws.proofs.sole.threads_begin_by_right.Goals as goal

pub returns : goal.returns
returns c = λ m p flat flattens fits code is x s ls wt shape few run checked thread tells.
    let named = c.functions_are_named.ensures in
    begins_by_right m code (c.each_names_itself.ensures m.typed p.resolved p.placed p.low) (named.main m flat flattens code is) (named.named m flat flattens code is)
    (λ f spawned. c.spawned_are_threads.ensures m p.resolved p.placed p.low flat flattens code is spawned.0 spawned.1 f spawned.3 spawned.2 spawned.4)
    (c.threads_may_start.ensures m p.resolved p.placed p.low) _ thread tells
    (c.starts_law.ensures x code s ls wt shape few run checked tells.before tells.begins tells.after tells.stands (ap (λ t. events_of t tells.before) tells.own ∙ tells.first) tells.argument tells.act)
