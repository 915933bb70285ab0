use Rattle.sharc_typed_laws.proofs.Leaving.{leaves_typed}
use Rattle.sharc_typed_laws.proofs.labels.leaves_law.Goals as goal

pub returns : goal.returns
returns c = leaves_typed
