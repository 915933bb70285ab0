use Rattle.sharc_accepted_laws.proofs.Names as names
use Rattle.sharc_accepted_laws.proofs.references.taken_laws.Goals as goal

pub returns : goal.returns
returns c = names.taken_laws c.rules_are_met.ensures
