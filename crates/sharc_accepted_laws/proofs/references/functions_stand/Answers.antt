use Rattle.sharc_accepted_laws.proofs.StaticWalk as walk
use Rattle.sharc_accepted_laws.proofs.references.functions_stand.Goals as goal

pub returns : goal.returns
returns c = walk.functions_stand c.each_name_once.ensures c.only_names.ensures c.each_names_itself.ensures c.each_names_found.ensures c.each_path_found.ensures c.each_type_found.ensures c.meets_constraints.ensures
