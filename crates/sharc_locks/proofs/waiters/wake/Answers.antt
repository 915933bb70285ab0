use Rattle.std.proofs.Common.{arith}
use Rattle.sharc_locks.proofs.Bits.{takes_away_first, wake_is}
use Rattle.sharc_locks.proofs.waiters.wake.Goals as goal

pub returns-clause-first : goal.returns-clause-first
returns-clause-first c = takes_away_first c.args.word (omega arith) c.ranges.word.fits

pub returns-clause-is : goal.returns-clause-is
returns-clause-is c = wake_is c.args.word (omega arith) c.ranges.word.fits
