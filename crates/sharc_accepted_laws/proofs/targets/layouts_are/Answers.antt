use Rattle.sharc_accepted_laws.proofs.Freeing as law
use Rattle.sharc_accepted_laws.proofs.targets.layouts_are.Goals as goal

pub returns : goal.returns
returns c = law.layouts_are c.within_limits.ensures
