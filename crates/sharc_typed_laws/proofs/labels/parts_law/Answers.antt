use Rattle.sharc_typed_laws.proofs.Law.{parts_typed}
use Rattle.sharc_typed_laws.proofs.labels.parts_law.Goals as goal

pub returns : goal.returns
returns c = parts_typed
