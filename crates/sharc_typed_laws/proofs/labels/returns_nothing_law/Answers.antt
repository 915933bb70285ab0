use Rattle.sharc_typed_laws.proofs.Returning.{nothing_returns}
use Rattle.sharc_typed_laws.proofs.labels.returns_nothing_law.Goals as goal

pub returns : goal.returns
returns c = nothing_returns
