use Rattle.sharc_typed_laws.proofs.Leaving.{jumps_typed}
use Rattle.sharc_typed_laws.proofs.labels.jumps_law.Goals as goal

pub returns : goal.returns
returns c = jumps_typed
