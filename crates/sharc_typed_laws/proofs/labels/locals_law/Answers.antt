use Rattle.sharc_typed_laws.proofs.Declaring.{locals_typed}
use Rattle.sharc_typed_laws.proofs.labels.locals_law.Goals as goal

pub returns : goal.returns
returns c = locals_typed
