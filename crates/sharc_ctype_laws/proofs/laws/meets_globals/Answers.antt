use Rattle.sharc_ctype_laws.proofs.TypedLaws as laws
use Rattle.sharc_ctype_laws.proofs.laws.meets_globals.Goals as goal

pub returns : goal.returns
returns c = laws.meets_globals
