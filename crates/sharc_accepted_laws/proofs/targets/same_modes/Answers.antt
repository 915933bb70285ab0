use Rattle.sharc_accepted_laws.proofs.Pointees as law
use Rattle.sharc_accepted_laws.proofs.targets.same_modes.Goals as goal

pub returns : goal.returns
returns c = law.same_modes
