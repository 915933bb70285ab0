use Rattle.sharc_reach.proofs.Imports.{◌≡◌, ◌++◌, drop, view_arguments, mentions_of_all}
use Rattle.sharc_reach.proofs.walk.+expression.Given as goal

abbrev pub invariant-arguments-loop-expr : goal.invariant-arguments-loop-expr
invariant-arguments-loop-expr l = l.list.items ++ mentions_of_all l.function (view_arguments (drop l.expr-index l.all)) ≡ l.fn.list.items ++ mentions_of_all l.function (view_arguments l.all)
