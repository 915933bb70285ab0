use Rattle.sharc_accepted_laws.proofs.Values as values
use Rattle.sharc_accepted_laws.proofs.typability.value_laws.Goals as goal

pub returns : goal.returns
returns c = values.value_laws c.meets_constraints.ensures c.held_laws.ensures c.scope_laws.ensures
