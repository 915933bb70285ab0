use Rattle.sharc_locks.proofs.Bits.{waits_read}
use Rattle.sharc_locks.proofs.waiters.waits.Goals as goal

pub returns : goal.returns
returns c = waits_read c.args.word c.args.thread
