use Rattle.sharc_accepted_laws.proofs.Whole as law
use Rattle.sharc_accepted_laws.proofs.targets.targets_are.Goals as goal

pub returns : goal.returns
returns c = law.targets_are c.each_name_once.ensures c.only_names.ensures c.each_type_found.ensures c.each_names_itself.ensures c.rules_are_met.ensures
