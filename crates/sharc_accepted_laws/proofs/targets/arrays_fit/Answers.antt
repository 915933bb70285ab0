use Rattle.sharc_accepted_laws.proofs.Ready as law
use Rattle.sharc_accepted_laws.proofs.targets.arrays_fit.Goals as goal

pub returns : goal.returns
returns c = law.arrays_fit c.each_name_once.ensures c.only_names.ensures c.each_type_found.ensures c.each_names_itself.ensures c.meets_constraints.ensures c.one_type.ensures c.rules_are_met.ensures
