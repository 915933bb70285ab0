use Rattle.sharc_flatten.proofs.Imports.{◌≡◌, ◌+◌, drop, int_count, ref_count}
use Rattle.sharc_flatten.proofs.scope.free.Given as goal

abbrev pub invariant-loop-slot : goal.invariant-loop-slot
invariant-loop-slot l = record {
  ints : l.int + int_count (drop l.slot-index l.scope) ≡ int_count l.scope;
  references : l.reference + ref_count (drop l.slot-index l.scope) ≡ ref_count l.scope;
}
