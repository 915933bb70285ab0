use Rattle.sharc_suggest_laws.proofs.Mismatches.{one_mismatch}
use Rattle.sharc_suggest_laws.proofs.laws.one_mismatch.Goals as goal

pub returns : goal.returns
returns c = one_mismatch
