use Rattle.sharc_seq.specs.Walk.{events_left}
use Rattle.sharc_history.specs.Going.{IsTraced}
use Rattle.sharc_history.proofs.history.history_by_schedule.Given as goal

abbrev pub invariant-turns : goal.invariant-turns
invariant-turns l = IsTraced l.code l.shape l.places l.limit l.going

abbrev pub decreases-turns : goal.decreases-turns
decreases-turns l = events_left l.limit l.going.walk
