use Rattle.sharc_accepted_laws.proofs.TargetPointing as law
use Rattle.sharc_accepted_laws.proofs.targets.pointees_point.Goals as goal

pub returns : goal.returns
returns c = law.pointees_point
