use Rattle.sharc_accepted_laws.proofs.AccessFirsts as law
use Rattle.sharc_accepted_laws.proofs.accesses.firsts_fit.Goals as goal

pub returns : goal.returns
returns c = law.firsts_fit c.expressions_found.ensures c.first_laws.ensures
