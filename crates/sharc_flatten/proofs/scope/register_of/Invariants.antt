use Rattle.sharc_flatten.proofs.Imports.{◌≡◌, drop, register_from}
use Rattle.sharc_flatten.proofs.scope.register_of.Given as goal

abbrev pub invariant-loop-slot : goal.invariant-loop-slot
invariant-loop-slot l = register_from l.int l.reference (drop l.slot-index l.scope) l.token ≡ register_from 0 0 l.scope l.token
