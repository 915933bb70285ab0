use Rattle.sharc_accepted_laws.proofs.Grounds as law
use Rattle.sharc_accepted_laws.proofs.accesses.grounds_fit.Goals as goal

pub returns : goal.returns
returns c = law.grounds_fit c.lvalues_fit.ensures c.arrays_fit.ensures
