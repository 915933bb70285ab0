use Rattle.std.proofs.Common.{◌-◌, ◌≤◌}
use Rattle.sharc_rounds.specs.Round.{MayRun, HasRun, KeepsRoom}
use Rattle.sharc_rounds.proofs.hand.Hand+BusSeat.run.Given as goal

abbrev pub invariant-loop-left : goal.invariant-loop-left
invariant-loop-left g l = record {
  few : l.left ≤ l.fn.stint.turns;
  may : MayRun l.lent.code.now l.lent.shape.now l.lent.limit l.lent.shared.now l.left l.hand;
  ran : HasRun l.lent.code.now l.lent.shape.now l.lent.limit l.fn.self l.hand;
  room : KeepsRoom (l.fn.stint.turns - l.left) l.fn.self.seat l.hand.seat;
}

abbrev pub decreases-loop-left : goal.decreases-loop-left
decreases-loop-left g l = l.left
