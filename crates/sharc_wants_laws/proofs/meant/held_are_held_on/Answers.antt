use Rattle.sharc_wants_laws.proofs.Held as held
use Rattle.sharc_wants_laws.proofs.meant.held_are_held_on.Goals as goal

pub returns : goal.returns
returns c = held.held_are_held_on c.each_names_itself.ensures c.one_type.ensures c.meets_constraints.ensures c.meets_statements.ensures c.are_plain.ensures
