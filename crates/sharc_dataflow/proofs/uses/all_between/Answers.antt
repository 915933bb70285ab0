use Rattle.sharc_dataflow.proofs.{Imports.{◌+◌, min, slice_index_or, take, subst, sym, get_or_default_zero, take_all, AreBetween}, Halved.between_next}
use Rattle.sharc_dataflow.proofs.uses.all_between.Goals as goal

pub loop-x-preserved : goal.loop-x-preserved
loop-x-preserved c =
    let y = slice_index_or c.args.list.now c.loop-x.x-index 0 in
    subst (λ m. AreBetween m c.greater-last.result (take (c.loop-x.x-index + 1) c.args.list.now)) (sym c.min-first.ensures)
    (subst (λ m. AreBetween (min c.loop-x.first y) m (take (c.loop-x.x-index + 1) c.args.list.now)) (sym c.greater-last.ensures)
    (between_next c.args.list.now c.loop-x.x-index y c.loop-x.first c.loop-x.last c.loop-x-test.true (sym (get_or_default_zero c.args.list.now c.loop-x.x-index y c.loop-x-test.true)) c.loop-x.invariant))

pub returns : goal.returns
returns c = subst (AreBetween c.loop-x.first c.loop-x.last) (take_all c.loop-x.x-index c.args.list.now c.loop-x-test.false) c.loop-x.invariant
