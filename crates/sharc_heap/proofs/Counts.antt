-- What the steps make of a count.
use Rattle.sharc_heap.proofs.Imports.{refl, arith, RaiseCounts, LowerCounts, TestLeaves}

pub raise_counts : RaiseCounts
raise_counts word count small = omega arith

pub lower_counts : LowerCounts
lower_counts word count small = omega arith

pub test_leaves : TestLeaves
test_leaves word count = refl
