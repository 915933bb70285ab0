use Rattle.sharc_flatten.proofs.Imports.{◌≡◌, max, drop, refs_in}
use Rattle.sharc_flatten.proofs.need.refs_in.Given as goal

abbrev pub invariant-loop-op : goal.invariant-loop-op
invariant-loop-op l = max l.most (refs_in (drop l.op-index l.lines)) ≡ refs_in l.lines
