use Rattle.sharc_guard.proofs.Theorem.{guards}
use Rattle.sharc_guard.proofs.laws.counted_law.Goals as goal

pub returns : goal.returns
returns c = guards
