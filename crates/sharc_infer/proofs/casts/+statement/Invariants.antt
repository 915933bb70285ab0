use Rattle.sharc_infer.proofs.Imports.{◌≡◌, ◌++◌, drop, in_statements, view_statements, casts_in}
use Rattle.sharc_infer.proofs.casts.+statement.Given as goal

abbrev pub invariant-statements-loop-stmt : goal.invariant-statements-loop-stmt
invariant-statements-loop-stmt l = l.links.items ++ casts_in l.typed (in_statements (view_statements (drop l.stmt-index l.all))) ≡ l.fn.links.items ++ casts_in l.typed (in_statements (view_statements l.all))
