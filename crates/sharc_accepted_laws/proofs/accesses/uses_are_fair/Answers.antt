use Rattle.sharc_accepted_laws.proofs.Uses as law
use Rattle.sharc_accepted_laws.proofs.accesses.uses_are_fair.Goals as goal

pub returns : goal.returns
returns c = law.uses_are_fair c.rules_are_met.ensures
