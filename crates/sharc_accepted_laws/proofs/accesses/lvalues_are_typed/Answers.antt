use Rattle.sharc_accepted_laws.proofs.Typed as law
use Rattle.sharc_accepted_laws.proofs.accesses.lvalues_are_typed.Goals as goal

pub returns : goal.returns
returns c = law.lvalues_are_typed c.integers_fit.ensures c.references_fit.ensures c.mutexes_fit.ensures c.grounds_fit.ensures c.uses_are_fair.ensures c.paths_lead.ensures
