use Rattle.sharc_ctype_laws.proofs.TypedLaws as laws
use Rattle.sharc_ctype_laws.proofs.laws.are_plain.Goals as goal

pub returns : goal.returns
returns c = laws.are_plain
