use Rattle.sharc_accepted_laws.proofs.Results as results
use Rattle.sharc_accepted_laws.proofs.references.result_laws.Goals as goal

pub returns : goal.returns
returns c = results.result_laws c.scope_laws.ensures c.each_type_found.ensures c.each_path_found.ensures
