use Rattle.sharc_source_laws.proofs.Unsigned.{constants_held}
use Rattle.sharc_source_laws.proofs.laws.constants_are_held.Goals as goal

pub returns : goal.returns
returns c = constants_held
