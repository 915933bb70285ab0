use Rattle.sharc_accepted_laws.proofs.Joined as joined
use Rattle.sharc_accepted_laws.proofs.accepted.accepted_law.Goals as goal

pub returns : goal.returns
returns c = joined.accepted_typed c.programs_law.ensures c.settings_law.ensures c.code_typed_law.ensures c.cells_law.ensures c.globals_named.ensures
