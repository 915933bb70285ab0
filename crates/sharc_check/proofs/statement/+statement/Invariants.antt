use Rattle.sharc_check.proofs.Imports.{◌≡◌, ◌++◌, drop, view_statements, notes_in_all}
use Rattle.sharc_check.proofs.statement.+statement.Given as goal

abbrev pub invariant-statements-loop-stmt : goal.invariant-statements-loop-stmt
invariant-statements-loop-stmt l = l.notes.items ++ notes_in_all l.program l.function (view_statements (drop l.stmt-index l.all)) ≡ l.fn.notes.items ++ notes_in_all l.program l.function (view_statements l.all)
