use Rattle.sharc_flat_laws.proofs.Locks as locks
use Rattle.sharc_flat_laws.proofs.laws.locks_are_found.Goals as goal

pub returns : goal.returns
returns c = locks.locks_are_found c.each_names_itself.ensures c.each_names_found.ensures c.each_path_found.ensures c.each_type_found.ensures c.meets_constraints.ensures
