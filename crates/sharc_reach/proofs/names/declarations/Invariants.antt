use Rattle.sharc_reach.proofs.Imports.{◌≡◌, ◌++◌, drop, declarations_marks, names}
use Rattle.sharc_reach.proofs.names.declarations.Given as goal

abbrev pub invariant-loop-one : goal.invariant-loop-one
invariant-loop-one l = l.list.items ++ names l.function (declarations_marks (drop l.one-index l.all)) ≡ l.fn.list.items ++ names l.function (declarations_marks l.all)
