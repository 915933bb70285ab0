use Rattle.sharc_history.proofs.Scheduled.{all_laws}
use Rattle.sharc_history.proofs.laws.history_laws.Goals as goal

pub returns : goal.returns
returns c = all_laws c.run_laws.ensures c.thread_laws.ensures c.schedule_laws.ensures
