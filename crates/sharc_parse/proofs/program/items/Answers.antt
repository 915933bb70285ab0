use Rattle.sharc_parse.proofs.{Imports.rules, ProgramSteps.{one_item_more, item_fails}}
use Rattle.sharc_parse.proofs.program.items.Goals as goal

pub returns-in_err-item-clause-reads : goal.returns-in_err-item-clause-reads
returns-in_err-item-clause-reads c = item_fails _ c.from_residual.result c.in_err-item.field-0.0 c.args.tokens.now c.loop-at.at c.item.new.at c.loop-at.items.items (search rules) c.loop-at.invariant.so_far c.loop-at-test.true c.in_err-item.ensures.reads

pub loop-at-preserved : goal.loop-at-preserved
loop-at-preserved c = record {
  so_far = one_item_more c.args.tokens.now c.loop-at.at c.item.new.at c.loop-at.items.items c.push.new.self.items c.in_ok-item.item c.in_ok-push.ensures.items c.loop-at.invariant.so_far c.loop-at-test.true c.in_ok-item.ensures.reads c.in_ok-item.ensures.placed;
  within = c.in_ok-item.ensures.onward.within;
}
