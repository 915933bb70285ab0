use Rattle.sharc_ctype_laws.proofs.TypedLaws as laws
use Rattle.sharc_ctype_laws.proofs.laws.each_name_once.Goals as goal

pub returns : goal.returns
returns c = laws.each_name_once
