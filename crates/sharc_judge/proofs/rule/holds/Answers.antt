use Rattle.sharc_judge.proofs.Unbroken.{holds_is}
use Rattle.sharc_judge.proofs.rule.holds.Goals as goal

pub returns : goal.returns
returns c = holds_is c.args.rule c.args.until c.args.events.now c.any_breaks.result c.any_breaks.ensures
