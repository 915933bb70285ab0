use Rattle.sharc_accepted_laws.proofs.TargetPointing as law
use Rattle.sharc_accepted_laws.proofs.targets.globals_point.Goals as goal

pub returns : goal.returns
returns c = law.globals_point
