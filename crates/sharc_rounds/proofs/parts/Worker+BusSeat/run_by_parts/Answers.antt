use Rattle.std.proofs.Common.{arith}
use Rattle.sharc_rounds.proofs.Joining.{have_both, all_may_more, all_fewer}
use Rattle.sharc_rounds.proofs.parts.Worker+BusSeat.run_by_parts.Goals as goal

pub run-requires-clause-may : goal.run-requires-clause-may
run-requires-clause-may g c = all_fewer c.args.lent.now.code.now c.args.lent.now.shape.now c.args.lent.now.limit c.args.lent.now.shared.now c.alone.result.turns c.parts.left c.parts.self (omega (arith, c.alone.ensures, c.min-turns.ensures)) c.parts.invariant.may

pub returns-then-left-eq0 : goal.returns-then-left-eq0
returns-then-left-eq0 g c = c.parts.invariant.ran c.run.new.self c.run.ensures.ran

pub parts-preserved : goal.parts-preserved
parts-preserved g c =
    let code = c.args.lent.now.code.now in
    let s = c.args.lent.now.shape.now in
    let stint = c.alone.result.turns in
    record {
      may = all_may_more code s c.args.lent.now.limit c.args.lent.now.shared.now stint _ c.parts.left c.parts.self c.run.new.self (omega (arith, c.alone.ensures, c.min-turns.ensures)) c.parts.invariant.may c.run.ensures.ran c.run.ensures.room;
      ran = λ new h. c.parts.invariant.ran new (have_both code s c.args.lent.now.limit c.parts.self c.run.new.self new c.run.ensures.ran h);
      some = omega (arith, c.parts.invariant.some);
      part = omega (arith, c.next_part-part.ensures);
    }
