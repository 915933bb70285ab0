use Rattle.sharc_flat.proofs.MadeFramed as framed
use Rattle.sharc_flat.proofs.laws.made_is_flattened.Goals as goal

pub returns : goal.returns
returns c = framed.made_is_flattened
