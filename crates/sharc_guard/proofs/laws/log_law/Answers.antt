use Rattle.sharc_guard.proofs.Logging.{logs_are_held}
use Rattle.sharc_guard.proofs.laws.log_law.Goals as goal

pub returns : goal.returns
returns c = logs_are_held
