use Rattle.sharc_heap.proofs.Sets.{clears_shifted, cleared_shifted}
use Rattle.sharc_heap.proofs.shadow_word.cleared.Goals as goal

pub returns-clause-clears : goal.returns-clause-clears
returns-clause-clears c = clears_shifted c.args.old c.from.result c.epoch.result c.epoch.ensures c.from.ensures

pub returns-clause-is : goal.returns-clause-is
returns-clause-is c = cleared_shifted c.args.old c.from.result c.epoch.result c.epoch.ensures c.from.ensures
