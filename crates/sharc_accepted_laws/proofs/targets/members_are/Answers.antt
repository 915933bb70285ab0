use Rattle.sharc_accepted_laws.proofs.Laying as law
use Rattle.sharc_accepted_laws.proofs.targets.members_are.Goals as goal

pub returns : goal.returns
returns c = law.members_are
