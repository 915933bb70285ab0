use Rattle.sharc_accepted_laws.proofs.TargetFirsts as law
use Rattle.sharc_accepted_laws.proofs.targets.first_laws.Goals as goal

pub returns : goal.returns
returns c = law.first_laws
