use Rattle.sharc_suggest_laws.proofs.Imports.{◌≡◌, take, view_statements, statements_with_cast}
use Rattle.sharc_suggest_laws.proofs.statement.+stmt.Given as goal

abbrev pub invariant-statements-loop-stmt : goal.invariant-statements-loop-stmt
invariant-statements-loop-stmt l = view_statements l.written.items ≡ statements_with_cast l.c (view_statements (take l.stmt-index l.list))
