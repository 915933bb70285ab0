use Rattle.sharc_accepted_laws.proofs.Paths as law
use Rattle.sharc_accepted_laws.proofs.accesses.mutexes_behind.Goals as goal

pub returns : goal.returns
returns c = law.mutexes_behind c.variables_found.ensures c.members_are.ensures c.pointees_fit.ensures c.fields_placed.ensures
