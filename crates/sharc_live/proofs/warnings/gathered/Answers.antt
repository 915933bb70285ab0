use Rattle.sharc_live.proofs.Warned.{item_next, items_end}
use Rattle.sharc_live.proofs.warnings.gathered.Goals as goal

pub loop-item-preserved : goal.loop-item-preserved
loop-item-preserved c = λ last more. c.loop-item.invariant last (item_next c.args.typed.now c.args.items.now c.loop-item.item-index c.item-item.result c.loop-item.found.items c.in_ok-found.found.items last c.loop-item-test.true c.item-item.is c.in_ok-found.ensures more)

pub returns : goal.returns
returns c = c.loop-item.invariant c.loop-item.found.items (items_end c.args.typed.now c.args.items.now c.loop-item.item-index c.loop-item.found.items c.loop-item-test.false)
