use Rattle.sharc_ctype_laws.proofs.TypedLaws as laws
use Rattle.sharc_ctype_laws.proofs.laws.spawns_name_functions.Goals as goal

pub returns : goal.returns
returns c = laws.spawns_name_functions
