use Rattle.sharc_ctype_laws.proofs.TypedLaws as laws
use Rattle.sharc_ctype_laws.proofs.laws.one_type.Goals as goal

pub returns : goal.returns
returns c = laws.one_type
