use Rattle.sharc_guard.proofs.Logging.{step_leaves}
use Rattle.sharc_guard.proofs.laws.turns_law.Goals as goal

pub returns : goal.returns
returns c = step_leaves
