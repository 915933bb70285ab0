use Rattle.sharc_flat_laws.proofs.Whole as whole
use Rattle.sharc_flat_laws.proofs.laws.typed_suits.Goals as goal

pub returns : goal.returns
returns c = whole.typed_suits c.locks_are_found.ensures c.each_names_itself.ensures c.each_names_found.ensures c.one_type.ensures c.meets_constraints.ensures c.meets_statements.ensures c.all_fair.ensures c.are_plain.ensures
