use Rattle.sharc_flat.proofs.Quiet.{laws}
use Rattle.sharc_flat.proofs.form_laws.path_laws.Goals as goal

pub returns : goal.returns
returns c = laws
