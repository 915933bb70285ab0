use Rattle.sharc_accepted_laws.proofs.Named as names
use Rattle.sharc_accepted_laws.proofs.accepted.globals_named.Goals as goal

pub returns : goal.returns
returns c = names.globals_named c.meets_constraints.ensures
