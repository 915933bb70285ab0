use Rattle.sharc_flatten.proofs.Imports.{◌≡◌, ◌++◌, drop, pops}
use Rattle.sharc_flatten.proofs.scope.pops.Given as goal

abbrev pub invariant-loop-slot : goal.invariant-loop-slot
invariant-loop-slot l = l.lines.items ++ pops l.register (drop l.slot-index l.scope) ≡ l.initial.lines.items ++ pops l.from l.scope
