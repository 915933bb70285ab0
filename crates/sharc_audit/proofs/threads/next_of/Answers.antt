use Rattle.sharc_audit.proofs.{Imports.{◌≡◌, ap, ◌∙◌, slice_get, ThreadRun, event_at}, Walking.far_enough}
use Rattle.sharc_audit.proofs.threads.next_of.Goals as goal

pub returns-clause-next : goal.returns-clause-next
returns-clause-next c =
    let old = c.args.run.now in
    let walked = c.in_ok-walk_to.ensures in
    let walk = c.walk_to.new.run.walk in
    let found : c.event_at.result ≡ event_at c.walk_to.new.run.thread walk.spent (slice_get walk.events c.args.place) = c.event_at.ensures in
    found
    ∙ ap (λ (z : ThreadRun). event_at z.thread walk.spent (slice_get walk.events c.args.place)) walked.same
    ∙ far_enough c.ask_laws.ensures c.args.program.now old.function old.argument old.answers.items c.args.fuel old.thread c.args.place walk walked.walk walked.within walked.far
