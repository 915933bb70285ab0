use Rattle.sharc_record.proofs.{Imports.{◌≡◌, ◌<◌, List, length, Option, None, get_or, set, sym, ap, ◌∙◌, subst, arith, Hand, SeatView, MayRunAt, HasRunAt, any_default}, Dealing.{done_more, left_less, same_length}}
use Rattle.sharc_record.proofs.worker.run_worker.Goals as goal

pub run_at-requires-clause-may : goal.run_at-requires-clause-may
run_at-requires-clause-may g c =
    let items = c.loop-n.worker.hands.items in
    let low : c.loop-n.n < length items = omega (arith, c.loop-n-test.true, c.len-n-end.ensures, c.loop-n.invariant.count) in
    let here : c.take-hand.result ≡ get_or c.args.worker.now.hands.items c.loop-n.n None =
    c.take-hand.ensures.value ∙ c.index_mut.ensures.value ∙ any_default items c.loop-n.n c.index_mut.result.now None low ∙ c.loop-n.invariant.left c.loop-n.n (omega arith) in
    subst (MayRunAt c.args.lent.now.code.now c.args.lent.now.shape.now c.args.lent.now.limit c.args.lent.now.shared.now) (sym here) (c.requires.may c.loop-n.n)

pub loop-n-preserved : goal.loop-n-preserved
loop-n-preserved g c =
    let first = c.args.worker.now.hands.items in
    let items = c.loop-n.worker.hands.items in
    let n = c.loop-n.n in
    let x = c.run_at.result in
    let P = HasRunAt c.args.lent.now.code.now c.args.lent.now.shape.now c.args.lent.now.limit in
    let low : n < length items = omega (arith, c.loop-n-test.true, c.len-n-end.ensures, c.loop-n.invariant.count) in
    let here : c.take-hand.result ≡ get_or first n None =
    c.take-hand.ensures.value ∙ c.index_mut.ensures.value ∙ any_default items n c.index_mut.result.now None low ∙ c.loop-n.invariant.left n (omega arith) in
    let next : List (Option (Hand SeatView)) = set (set items n None) n x in
    let is : set (set items n c.take-hand.new.self) n x ≡ next = ap (λ y. set (set items n y) n x) c.take-hand.ensures.after in
    let this : P (get_or first n None) x = subst (λ y. P y x) here c.run_at.ensures in
    record {
      count = same_length P first items (set (set items n c.take-hand.new.self) n x) n x low is ∙ c.loop-n.invariant.count;
      done = done_more P first items (set (set items n c.take-hand.new.self) n x) n x low is c.loop-n.invariant.done this;
      left = left_less P first items (set (set items n c.take-hand.new.self) n x) n x low is c.loop-n.invariant.left;
    }
