use Rattle.sharc_threads.specs.Seats.{left}
use Rattle.sharc_rounds.specs.Round.{AreRounds}
use Rattle.sharc_rounds.proofs.run.run_rounds.Given as goal

abbrev pub invariant-rounds : goal.invariant-rounds
invariant-rounds g l = AreRounds l.code l.shape l.limit l.rounds

abbrev pub decreases-rounds : goal.decreases-rounds
decreases-rounds g l = left l.limit l.rounds.threads.seats.items
