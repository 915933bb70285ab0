use Rattle.sharc_accepted_laws.proofs.Standing as law
use Rattle.sharc_accepted_laws.proofs.accesses.guards_fit.Goals as goal

pub returns : goal.returns
returns c = law.guards_fit c.globals_are.ensures c.meets_globals.ensures c.expressions_found.ensures c.locks_stand_beside.ensures c.lvalues_fit.ensures
