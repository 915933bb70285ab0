use Rattle.sharc_accepted_laws.proofs.TargetWalk as law
use Rattle.sharc_accepted_laws.proofs.targets.own_found.Goals as goal

pub returns : goal.returns
returns c = law.own_found c.each_type_found.ensures
