use Rattle.sharc_accepted_laws.proofs.Alone as alone
use Rattle.sharc_accepted_laws.proofs.references.some_are_alone.Goals as goal

pub returns : goal.returns
returns c = alone.some_are_alone c.reached_are_told.ensures c.link_laws.ensures c.rules_are_met.ensures c.each_type_found.ensures c.each_path_found.ensures c.each_names_itself.ensures c.meets_constraints.ensures
