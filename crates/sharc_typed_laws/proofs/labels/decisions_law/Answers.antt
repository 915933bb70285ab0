use Rattle.sharc_typed_laws.proofs.Decided.{decisions_typed}
use Rattle.sharc_typed_laws.proofs.labels.decisions_law.Goals as goal

pub returns : goal.returns
returns c = decisions_typed
