use Rattle.sharc_flatten.proofs.Imports.{◌≡◌, ◌++◌, replicate}
use Rattle.sharc_flatten.proofs.globals.add_zeros.Given as goal

abbrev pub invariant-loop-left : goal.invariant-loop-left
invariant-loop-left l = l.words.items ++ replicate l.left 0 ≡ l.initial.words.items ++ replicate l.count 0

abbrev pub decreases-loop-left : goal.decreases-loop-left
decreases-loop-left l = l.left
