use Rattle.sharc_typed_laws.proofs.Program.{programs_typed}
use Rattle.sharc_typed_laws.proofs.statements.programs_law.Goals as goal

pub returns : goal.returns
returns c = programs_typed c.lines_law.ensures c.tells_law.ensures c.knows_law.ensures c.functions_law.ensures c.made_is_past.ensures c.made_is_flattened.ensures
