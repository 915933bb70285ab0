use Rattle.sharc_typed_laws.proofs.Anyhow.{typed}
use Rattle.sharc_typed_laws.proofs.typed.anyhow_law.Goals as goal

pub returns : goal.returns
returns c = typed
