use Rattle.sharc_typed_laws.proofs.LevelProgram.{programs_level}
use Rattle.sharc_typed_laws.proofs.statements.levels_law.Goals as goal

pub returns : goal.returns
returns c = programs_level c.programs_law.ensures c.anyhow_law.ensures c.typed_law.ensures c.made_is_flattened.ensures
