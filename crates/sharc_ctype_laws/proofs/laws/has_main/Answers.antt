use Rattle.sharc_ctype_laws.proofs.TypedLaws as laws
use Rattle.sharc_ctype_laws.proofs.laws.has_main.Goals as goal

pub returns : goal.returns
returns c = laws.has_main
