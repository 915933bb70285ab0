use Rattle.sharc_live.proofs.Imports.{◌≡◌, ◌++◌, drop, view_statements, listing, statements_flow}
use Rattle.sharc_live.proofs.statement.+statement.Given as goal

abbrev pub invariant-statements-loop-stmt : goal.invariant-statements-loop-stmt
invariant-statements-loop-stmt l = l.steps.items ++ listing (statements_flow l.typed (view_statements (drop l.stmt-index l.all))) ≡ l.fn.steps.items ++ listing (statements_flow l.typed (view_statements l.all))
