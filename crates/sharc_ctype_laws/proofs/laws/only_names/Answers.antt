use Rattle.sharc_ctype_laws.proofs.TypedLaws as laws
use Rattle.sharc_ctype_laws.proofs.laws.only_names.Goals as goal

pub returns : goal.returns
returns c = laws.only_names
