use Rattle.sharc_heap.proofs.{Imports.{◌+◌, arith}, OneBit.without_bit, Conflict.are_others}
use Rattle.sharc_heap.proofs.shadow_word.others.Goals as goal

pub returns : goal.returns
returns c =
    are_others c.args.old _ c.args.thread c.requires (without_bit c.args.old c.bit_of.result (1 + c.args.thread) c.ranges.old.fits (omega arith) c.bit_of.ensures)
