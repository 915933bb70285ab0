use Rattle.sharc_accepted_laws.proofs.AccessPointing as law
use Rattle.sharc_accepted_laws.proofs.accesses.references_fit.Goals as goal

pub returns : goal.returns
returns c = law.references_fit c.cells_stand.ensures c.accesses_fit.ensures c.guards_fit.ensures c.scope_laws.ensures c.lvalues_fit.ensures c.places_point.ensures
