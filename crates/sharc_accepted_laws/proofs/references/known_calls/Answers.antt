use Rattle.sharc_accepted_laws.proofs.Callees as callees
use Rattle.sharc_accepted_laws.proofs.references.known_calls.Goals as goal

pub returns : goal.returns
returns c = callees.known_calls c.each_name_once.ensures c.only_names.ensures
