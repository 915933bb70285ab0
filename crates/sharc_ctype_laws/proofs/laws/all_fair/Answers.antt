use Rattle.sharc_ctype_laws.proofs.TypedLaws as laws
use Rattle.sharc_ctype_laws.proofs.laws.all_fair.Goals as goal

pub returns : goal.returns
returns c = laws.all_fair
