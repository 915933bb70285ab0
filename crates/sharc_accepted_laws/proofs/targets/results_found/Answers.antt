use Rattle.sharc_accepted_laws.proofs.Expressing as law
use Rattle.sharc_accepted_laws.proofs.targets.results_found.Goals as goal

pub returns : goal.returns
returns c = law.results_found c.each_type_found.ensures
