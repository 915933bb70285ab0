use Rattle.sharc_ctype_laws.proofs.TypedLaws as laws
use Rattle.sharc_ctype_laws.proofs.laws.same_kinds.Goals as goal

pub returns : goal.returns
returns c = laws.same_kinds
