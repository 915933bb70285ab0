use Rattle.sharc_meaning_tests.proofs.Imports.{◌≡◌, drop, view_statements, statements_make}
use Rattle.sharc_meaning_tests.proofs.made.+statement.Given as goal

abbrev pub invariant-statements_make-loop-stmt : goal.invariant-statements_make-loop-stmt
invariant-statements_make-loop-stmt l = statements_make l.typed l.token l.cell (view_statements (drop l.stmt-index l.all)) ≡ statements_make l.typed l.token l.cell (view_statements l.all)
