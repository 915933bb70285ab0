use Rattle.sharc_accepted_laws.proofs.Holds as holds
use Rattle.sharc_accepted_laws.proofs.references.held_laws.Goals as goal

pub returns : goal.returns
returns c = holds.held_laws c.rules_are_met.ensures
