use Rattle.sharc_heap.proofs.Sets.{read_bits_at, write_bits_at, adds_access}
use Rattle.sharc_heap.proofs.shadow_word.bits.Goals as goal

pub returns-in-Read-clause-sets : goal.returns-in-Read-clause-sets
returns-in-Read-clause-sets c = read_bits_at c.bit_of.result c.args.thread c.args.kind c.requires c.bit_of.ensures c.in-Read.is

pub returns-in-Read-clause-adds : goal.returns-in-Read-clause-adds
returns-in-Read-clause-adds c = λ old.
    adds_access old c.bit_of.result c.args.thread c.args.kind (read_bits_at c.bit_of.result c.args.thread c.args.kind c.requires c.bit_of.ensures c.in-Read.is)

pub returns-in-Write-clause-sets : goal.returns-in-Write-clause-sets
returns-in-Write-clause-sets c = write_bits_at c.bit_of-in-Write.result c.args.thread c.args.kind c.requires c.bit_of-in-Write.ensures c.in-Write.is

pub returns-in-Write-clause-adds : goal.returns-in-Write-clause-adds
returns-in-Write-clause-adds c = λ old.
    adds_access old _ c.args.thread c.args.kind (write_bits_at c.bit_of-in-Write.result c.args.thread c.args.kind c.requires c.bit_of-in-Write.ensures c.in-Write.is)
