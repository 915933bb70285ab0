use Rattle.sharc_meaning.proofs.Moded.{modes_alone}
use Rattle.sharc_meaning.proofs.laws.mode_laws.Goals as goal

pub returns : goal.returns
returns c = modes_alone
