use Rattle.sharc_accepted_laws.proofs.Celled as celled
use Rattle.sharc_accepted_laws.proofs.accepted.cells_law.Goals as goal

pub returns : goal.returns
returns c = celled.cells_are_typed c.value_laws.ensures c.scope_laws.ensures c.lvalues_are_typed.ensures c.paths_lead.ensures c.firsts_fit.ensures c.known_calls.ensures
