use Rattle.sharc_accepted_laws.proofs.TargetPointing as law
use Rattle.sharc_accepted_laws.proofs.targets.global_pointers_are.Goals as goal

pub returns : goal.returns
returns c = law.pointers_are_of_globals
