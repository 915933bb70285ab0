use Rattle.std.proofs.Common.{arith}
use Rattle.sharc_locks.proofs.Bits.{set_waiter}
use Rattle.sharc_locks.proofs.waiters.enter.Goals as goal

pub returns-clause-enters : goal.returns-clause-enters
returns-clause-enters c = λ word k. set_waiter word c.args.thread (omega arith) k
