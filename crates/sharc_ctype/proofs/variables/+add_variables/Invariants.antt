use Rattle.sharc_ctype.proofs.Imports.{◌≡◌, ◌++◌, drop, view_statements, initialised_in_all, assigned_in_all}
use Rattle.sharc_ctype.proofs.variables.+add_variables.Given as goal

abbrev pub invariant-add_all_variables-loop-stmt : goal.invariant-add_all_variables-loop-stmt
invariant-add_all_variables-loop-stmt l = record {
  initialised : l.variables.initialised.items ++ initialised_in_all (view_statements (drop l.stmt-index l.list)) ≡ l.fn.variables.initialised.items ++ initialised_in_all (view_statements l.list);
  assigned : l.variables.assigned.items ++ assigned_in_all l.names (view_statements (drop l.stmt-index l.list)) ≡ l.fn.variables.assigned.items ++ assigned_in_all l.names (view_statements l.list);
}
