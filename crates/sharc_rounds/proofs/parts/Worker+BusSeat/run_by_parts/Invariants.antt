use Rattle.std.proofs.Common.{◌<◌}
use Rattle.sharc_bus.specs.Bus.{SeatView}
use Rattle.sharc_rounds.specs.{declared.worker.Worker.Worker, Round.{MayAllRun, HaveAllRun}}
use Rattle.sharc_rounds.proofs.parts.Worker+BusSeat.run_by_parts.Given as goal

abbrev pub invariant-parts : goal.invariant-parts
invariant-parts g l = record {
  may : MayAllRun l.lent.code.now l.lent.shape.now l.lent.limit l.lent.shared.now l.left l.self;
  ran : (new : Worker SeatView) → HaveAllRun l.lent.code.now l.lent.shape.now l.lent.limit l.self new → HaveAllRun l.lent.code.now l.lent.shape.now l.lent.limit l.fn.self new;
  some : 0 < l.left;
  part : 0 < l.part;
}

abbrev pub decreases-parts : goal.decreases-parts
decreases-parts g l = l.left
