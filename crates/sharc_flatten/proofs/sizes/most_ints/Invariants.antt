use Rattle.sharc_flatten.proofs.Imports.{◌≡◌, take, most_ints}
use Rattle.sharc_flatten.proofs.sizes.most_ints.Given as goal

abbrev pub invariant-loop-row : goal.invariant-loop-row
invariant-loop-row l = l.most ≡ most_ints (take l.row-index l.rows)
