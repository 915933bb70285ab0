use Rattle.sharc_heap.proofs.{Imports.sym, Sets.epoch_is}
use Rattle.sharc_heap.proofs.shadow_word.epoch.Goals as goal

pub returns : goal.returns
returns c = sym (epoch_is c.args.old)
