use Rattle.sharc_dataflow.proofs.Imports.{◌≡◌, ◌++◌, None, drop, first_each}
use Rattle.sharc_dataflow.proofs.ordered.first_each.Given as goal

abbrev pub invariant-loop-w : goal.invariant-loop-w
invariant-loop-w l = l.firsts.items ++ first_each l.last (drop l.w-index l.sorted) ≡ first_each None l.sorted
