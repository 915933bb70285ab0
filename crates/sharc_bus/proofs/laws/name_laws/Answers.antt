use Rattle.sharc_bus.proofs.Names.{names_tell}
use Rattle.sharc_bus.proofs.laws.name_laws.Goals as goal

pub returns : goal.returns
returns c = names_tell
