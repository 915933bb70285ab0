use Rattle.std.proofs.Common.{length}
use Rattle.sharc_judge.proofs.pair.+any_pair.Given as goal

abbrev pub decreases-any_pair : goal.decreases-any_pair
decreases-any_pair l = length l.events.now
