use Rattle.sharc_flat.proofs.Apart.{apart}
use Rattle.sharc_flat.proofs.laws.globals_lie_apart.Goals as goal

pub returns : goal.returns
returns c = apart
