use Rattle.sharc_flatten.proofs.Imports.{◌≡◌, max, drop, ints_in}
use Rattle.sharc_flatten.proofs.need.ints_in.Given as goal

abbrev pub invariant-loop-op : goal.invariant-loop-op
invariant-loop-op l = max l.most (ints_in (drop l.op-index l.lines)) ≡ ints_in l.lines
