use Rattle.sharc_infer_laws.proofs.Locks.{least_has_written_locks}
use Rattle.sharc_infer_laws.proofs.laws.least_has_written_locks.Goals as goal

pub returns : goal.returns
returns c = least_has_written_locks c.link_laws.ensures.counted
