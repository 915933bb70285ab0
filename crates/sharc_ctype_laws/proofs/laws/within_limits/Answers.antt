use Rattle.sharc_ctype_laws.proofs.TypedLaws as laws
use Rattle.sharc_ctype_laws.proofs.laws.within_limits.Goals as goal

pub returns : goal.returns
returns c = laws.within_limits
