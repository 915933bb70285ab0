use Rattle.sharc_accepted_laws.proofs.Joining as law
use Rattle.sharc_accepted_laws.proofs.accesses.mutexes_fit.Goals as goal

pub returns : goal.returns
returns c = law.mutexes_fit c.cells_stand.ensures c.accesses_fit.ensures c.guards_fit.ensures c.scope_laws.ensures
