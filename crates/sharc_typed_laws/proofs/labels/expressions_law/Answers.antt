use Rattle.sharc_typed_laws.proofs.Law.{expressions_typed}
use Rattle.sharc_typed_laws.proofs.labels.expressions_law.Goals as goal

pub returns : goal.returns
returns c = expressions_typed
