use Rattle.sharc_code.specs.Whole.{place_after}
use Rattle.sharc_history.proofs.Lasting.{listed, skipped}
use Rattle.sharc_history.proofs.last.list.Goals as goal

pub returns-in_ok-push-in-Some : goal.returns-in_ok-push-in-Some
returns-in_ok-push-in-Some c = λ s turns stands are.
    listed c.args.code.now s (place_after c.args.code.now s turns) c.args.number c.args.lasts.now.items c.push.new.self.items _ are c.from.ensures (c.in-Some.ensures s turns stands)
    c.in_ok-push-in-Some.ensures.items

pub returns-in-None : goal.returns-in-None
returns-in-None c = λ s turns stands are. skipped c.args.code.now s (place_after c.args.code.now s turns) c.args.number c.args.lasts.now.items are (c.in-None.ensures s turns stands)
