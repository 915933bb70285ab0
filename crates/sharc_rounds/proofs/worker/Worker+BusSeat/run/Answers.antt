use Rattle.std.proofs.Common.{◌≡◌, ◌<◌, List, length, Option, None, get_or, set, refl, sym, ◌∙◌, subst, arith}
use Rattle.sharc_bus.specs.Bus.{SeatView}
use Rattle.sharc_rounds.specs.{declared.hand.Hand.Hand, Round.{MayRunAt, HasRunAt, KeepsRoomAt}}
use Rattle.sharc_rounds.proofs.Dealing.{done_more, left_less, same_length}
use Rattle.sharc_rounds.proofs.worker.Worker+BusSeat.run.Goals as goal
use Rattle.sharc_lemmas.proofs.Lists.{any_default}

pub run_at-requires-clause-may : goal.run_at-requires-clause-may
run_at-requires-clause-may g c =
    let items = c.loop-n.self.hands.items in
    let low : c.loop-n.n < length items = omega (arith, c.loop-n-test.true, c.len-n-end.ensures, c.loop-n.invariant.count) in
    let here : c.index_mut.result.now ≡ get_or c.args.self.now.hands.items c.loop-n.n None =
    c.index_mut.ensures.value ∙ any_default items c.loop-n.n c.index_mut.result.now None low ∙ c.loop-n.invariant.left c.loop-n.n (omega arith) in
    subst (MayRunAt c.args.lent.now.code.now c.args.lent.now.shape.now c.args.lent.now.limit c.args.lent.now.shared.now c.args.stint.turns) (sym here) (c.requires.may c.loop-n.n)

pub loop-n-preserved : goal.loop-n-preserved
loop-n-preserved g c =
    let first = c.args.self.now.hands.items in
    let items = c.loop-n.self.hands.items in
    let n = c.loop-n.n in
    let x = c.run_at.new.hand in
    let P = HasRunAt c.args.lent.now.code.now c.args.lent.now.shape.now c.args.lent.now.limit in
    let K = KeepsRoomAt c.args.stint.turns in
    let low : n < length items = omega (arith, c.loop-n-test.true, c.len-n-end.ensures, c.loop-n.invariant.count) in
    let here : c.index_mut.result.now ≡ get_or first n None =
    c.index_mut.ensures.value ∙ any_default items n c.index_mut.result.now None low ∙ c.loop-n.invariant.left n (omega arith) in
    let next : List (Option (Hand SeatView)) = set items n x in
    let is : set items n x ≡ next = refl in
    let this : P (get_or first n None) x = subst (λ y. P y x) here c.run_at.ensures.ran in
    let kept : K (get_or first n None) x = subst (λ y. K y x) here c.run_at.ensures.room in
    record {
      count = same_length P first items next n x low is ∙ c.loop-n.invariant.count;
      done = done_more P first items next n x low is c.loop-n.invariant.done this;
      kept = done_more K first items next n x low is c.loop-n.invariant.kept kept;
      left = left_less P first items next n x low is c.loop-n.invariant.left;
    }
