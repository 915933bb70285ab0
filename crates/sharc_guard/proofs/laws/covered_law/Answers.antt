use Rattle.sharc_guard.proofs.Covering.{covered}
use Rattle.sharc_guard.proofs.laws.covered_law.Goals as goal

pub returns : goal.returns
returns c = covered
