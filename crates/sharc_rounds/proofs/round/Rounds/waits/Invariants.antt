use Rattle.std.proofs.Common.{◌≡◌, ℕ, ◌<◌, false, None, get_or}
use Rattle.sharc_rounds.specs.Pace.{waits_on}
use Rattle.sharc_rounds.proofs.round.Rounds.waits.Given as goal

abbrev pub invariant-loop-n : goal.invariant-loop-n
invariant-loop-n l = (t : ℕ) → t < l.n → waits_on (get_or l.self.threads.seats.items t None) ≡ false
