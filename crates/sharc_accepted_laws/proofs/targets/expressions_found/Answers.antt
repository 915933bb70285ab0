use Rattle.sharc_accepted_laws.proofs.Expressing as law
use Rattle.sharc_accepted_laws.proofs.targets.expressions_found.Goals as goal

pub returns : goal.returns
returns c = law.expressions_found c.each_type_found.ensures c.meets_constraints.ensures c.one_type.ensures
