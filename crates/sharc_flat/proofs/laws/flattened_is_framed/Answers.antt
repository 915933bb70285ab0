use Rattle.sharc_flat.proofs.Framed as framed
use Rattle.sharc_flat.proofs.laws.flattened_is_framed.Goals as goal

pub returns : goal.returns
returns c = framed.flattened_is_framed
