use Rattle.sharc_ctype_laws.proofs.TypedLaws as laws
use Rattle.sharc_ctype_laws.proofs.laws.names_in_types.Goals as goal

pub returns : goal.returns
returns c = laws.names_in_types
