use Rattle.sharc_accepted_laws.proofs.AccessLeading as law
use Rattle.sharc_accepted_laws.proofs.accesses.paths_lead.Goals as goal

pub returns : goal.returns
returns c = law.paths_lead c.expressions_lead.ensures c.mutexes_behind.ensures
