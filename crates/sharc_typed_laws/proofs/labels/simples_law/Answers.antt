use Rattle.sharc_typed_laws.proofs.Law.{simples_typed}
use Rattle.sharc_typed_laws.proofs.labels.simples_law.Goals as goal

pub returns : goal.returns
returns c = simples_typed
