use Rattle.sharc_heap.proofs.{Imports.{◌≡◌, ◌+◌, arith, IsBlock, granules_of}, Least.{is_block, block_is}}
use Rattle.sharc_heap.proofs.blocks.block.Goals as goal

pub returns : goal.returns
returns c =
    let rounded = c.div_ceil.ensures in
    let needed : 1 + c.div_ceil.result ≡ granules_of c.args.cells = omega arith in
    let least : IsBlock c.args.cells c.next_power_of_two.result = is_block c.args.cells (1 + c.div_ceil.result) c.next_power_of_two.result needed c.next_power_of_two.ensures.power c.next_power_of_two.ensures.lower_bound c.next_power_of_two.ensures.upper_bound in
    record { is = block_is c.args.cells c.next_power_of_two.result (omega arith) least; least = least }
