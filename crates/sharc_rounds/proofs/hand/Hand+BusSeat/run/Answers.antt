use Rattle.std.proofs.Common.{◌≡◌, ◌-◌, ◌≤◌, subst, arith}
use Rattle.sharc_rounds.specs.{Round.KeepsRoom, Shares.first_turns}
use Rattle.sharc_rounds.proofs.Joining.{first_few, has_both, room_both, room_of_more, may_rest}
use Rattle.sharc_rounds.proofs.hand.Hand+BusSeat.run.Goals as goal

pub loop-left-init : goal.loop-left-init
loop-left-init g c =
    let turns = c.args.stint.turns in
    let first = c.first-first.result.turns in
    let went = c.go-hand.ensures in
    let is : first ≡ first_turns turns = c.first-first.ensures in
    let few : first ≤ turns = omega (arith, is, first_few turns) in
    let made : first ≡ turns - (turns - first) = omega (arith, few) in
    record {
      few = omega arith;
      may = may_rest c.args.lent.now.code.now c.args.lent.now.shape.now c.args.lent.now.limit c.args.lent.now.shared.now first turns c.args.self c.go-hand.result few c.requires.may went.ran went.room;
      ran = went.ran;
      room = subst (λ k. KeepsRoom k c.args.self.seat c.go-hand.result.seat) made went.room;
    }

pub loop-left-preserved : goal.loop-left-preserved
loop-left-preserved g c =
    let code = c.args.lent.now.code.now in
    let s = c.args.lent.now.shape.now in
    let turns = c.args.stint.turns in
    let left = c.loop-left.left in
    let hand = c.loop-left.hand in
    let kept = c.loop-left.invariant in
    let further = c.further-further.result.turns in
    let went = c.go-hand-in-loop-left.ensures in
    let new = c.go-hand-in-loop-left.result in
    let few : further ≤ left = omega (arith, c.further-further.ensures) in
    record {
      few = omega (arith, kept.few);
      may = may_rest code s c.args.lent.now.limit c.args.lent.now.shared.now further left hand new few kept.may went.ran went.room;
      ran = has_both code s c.args.lent.now.limit c.args.self hand new kept.ran went.ran;
      room = room_both code s c.args.lent.now.limit (turns - left) further (turns - (left - further)) c.args.self hand new (omega (arith, few, kept.few)) kept.ran kept.room went.room;
    }

pub returns-else-is_in_section-clause-room : goal.returns-else-is_in_section-clause-room
returns-else-is_in_section-clause-room g c = room_of_more (c.args.stint.turns - c.loop-left.left) c.args.stint.turns c.args.self.seat c.loop-left.hand.seat (omega arith) c.loop-left.invariant.room
