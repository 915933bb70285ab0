use Rattle.sharc_source_laws.proofs.Unsigned.{no_signs}
use Rattle.sharc_source_laws.proofs.laws.numbers_have_no_sign.Goals as goal

pub returns : goal.returns
returns c = no_signs
