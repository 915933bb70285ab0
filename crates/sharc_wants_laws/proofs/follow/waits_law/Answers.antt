use Rattle.sharc_wants_laws.proofs.Entered.{code_waits}
use Rattle.sharc_wants_laws.proofs.follow.waits_law.Goals as goal

pub returns : goal.returns
returns c = code_waits c.made_waits.ensures
