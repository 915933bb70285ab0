use Rattle.sharc_ctype.proofs.Imports.{◌≡◌, ◌++◌, drop, view_items, all_with_value, all_assigned}
use Rattle.sharc_ctype.proofs.variables.variables_in.Given as goal

abbrev pub invariant-loop-item : goal.invariant-loop-item
invariant-loop-item l = record {
  initialised : l.variables.initialised.items ++ all_with_value (view_items (drop l.item-index l.items)) ≡ all_with_value (view_items l.items);
  assigned : l.variables.assigned.items ++ all_assigned l.names (view_items (drop l.item-index l.items)) ≡ all_assigned l.names (view_items l.items);
}
