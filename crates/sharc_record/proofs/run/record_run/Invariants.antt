use Rattle.sharc_record.proofs.Imports.{left, AreRounds}
use Rattle.sharc_record.proofs.run.record_run.Given as goal

abbrev pub invariant-rounds : goal.invariant-rounds
invariant-rounds g l = AreRounds l.code l.shape l.limit l.rounds

abbrev pub decreases-rounds : goal.decreases-rounds
decreases-rounds g l = left l.limit l.rounds.threads.seats.items
