use Rattle.sharc_ctype_laws.proofs.Witness as witness
use Rattle.sharc_ctype_laws.proofs.laws.some_typed.Goals as goal

pub returns : goal.returns
returns c = witness.some_typed
