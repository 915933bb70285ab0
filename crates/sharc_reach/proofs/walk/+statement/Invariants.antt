use Rattle.sharc_reach.proofs.Imports.{◌≡◌, ◌++◌, drop, view_statements, statements_mentions}
use Rattle.sharc_reach.proofs.walk.+statement.Given as goal

abbrev pub invariant-statements-loop-stmt : goal.invariant-statements-loop-stmt
invariant-statements-loop-stmt l = l.list.items ++ statements_mentions l.function (view_statements (drop l.stmt-index l.all)) ≡ l.fn.list.items ++ statements_mentions l.function (view_statements l.all)
