use Rattle.sharc_accepted_laws.proofs.Laying as law
use Rattle.sharc_accepted_laws.proofs.targets.globals_end.Goals as goal

pub returns : goal.returns
returns c = law.globals_end
