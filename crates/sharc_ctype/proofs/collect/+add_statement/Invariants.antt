use Rattle.sharc_ctype.proofs.Imports.{◌≡◌, ◌++◌, drop, view_statements, statements_entities}
use Rattle.sharc_ctype.proofs.collect.+add_statement.Given as goal

abbrev pub invariant-add_statements-loop-stmt : goal.invariant-add_statements-loop-stmt
invariant-add_statements-loop-stmt l = l.entities ++ statements_entities (view_statements (drop l.stmt-index l.list)) ≡ l.fn.entities ++ statements_entities (view_statements l.list)
