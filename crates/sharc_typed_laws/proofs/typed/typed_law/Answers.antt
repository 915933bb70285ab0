use Rattle.sharc_typed_laws.proofs.Whole.{well_typed}
use Rattle.sharc_typed_laws.proofs.typed.typed_law.Goals as goal

pub returns : goal.returns
returns c = well_typed
