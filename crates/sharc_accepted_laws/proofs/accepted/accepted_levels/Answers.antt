use Rattle.sharc_accepted_laws.proofs.Joined as joined
use Rattle.sharc_accepted_laws.proofs.accepted.accepted_levels.Goals as goal

pub returns : goal.returns
returns c = joined.accepted_level c.programs_law.ensures c.settings_law.ensures c.levels_law.ensures c.typed_is_framed.ensures c.cells_law.ensures c.globals_named.ensures
