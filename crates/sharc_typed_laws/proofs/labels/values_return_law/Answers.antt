use Rattle.sharc_typed_laws.proofs.Returning.{values_return}
use Rattle.sharc_typed_laws.proofs.labels.values_return_law.Goals as goal

pub returns : goal.returns
returns c = values_return
