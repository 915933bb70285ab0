use Rattle.sharc_locks.proofs.Bits.{same_from_waiters, nobody_in_zero, or_enters, or_waits, or_leaves_others, lowest_is_taken_away}
use Rattle.sharc_locks.proofs.laws.waiters_laws.Goals as goal

pub returns : goal.returns
returns c = record {
  set = same_from_waiters;
  empty = nobody_in_zero;
  enters = or_enters;
  waits = or_waits;
  others = or_leaves_others;
  lowest = lowest_is_taken_away;
}
