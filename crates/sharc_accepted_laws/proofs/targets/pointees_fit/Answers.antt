use Rattle.sharc_accepted_laws.proofs.Pointees as law
use Rattle.sharc_accepted_laws.proofs.targets.pointees_fit.Goals as goal

pub returns : goal.returns
returns c = law.pointees_fit
