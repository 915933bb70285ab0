use Rattle.sharc_flatten.proofs.Imports.{◌≡◌, take, most_refs}
use Rattle.sharc_flatten.proofs.sizes.most_refs.Given as goal

abbrev pub invariant-loop-row : goal.invariant-loop-row
invariant-loop-row l = l.most ≡ most_refs (take l.row-index l.rows)
