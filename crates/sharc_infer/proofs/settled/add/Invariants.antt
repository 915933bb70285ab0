use Rattle.sharc_infer.proofs.Imports.{◌≡◌, ◌++◌, drop, settled, settled_modes}
use Rattle.sharc_infer.proofs.settled.add.Given as goal

abbrev pub invariant-loop-depth : goal.invariant-loop-depth
invariant-loop-depth l = l.list.items ++ settled l.entity.written.ctype.base l.otherwise (drop l.depth l.levels) ≡ l.fn.list.items ++ settled_modes l.entity
