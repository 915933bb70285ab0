use Rattle.sharc_ctype_laws.proofs.TypedLaws as laws
use Rattle.sharc_ctype_laws.proofs.laws.each_type_found.Goals as goal

pub returns : goal.returns
returns c = laws.each_type_found
