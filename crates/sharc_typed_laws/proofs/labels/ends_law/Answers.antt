use Rattle.sharc_typed_laws.proofs.Ending.{ends_typed}
use Rattle.sharc_typed_laws.proofs.labels.ends_law.Goals as goal

pub returns : goal.returns
returns c = ends_typed
