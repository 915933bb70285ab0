use Rattle.sharc_check.proofs.Imports.{◌≡◌, ◌+◌, ◌≤◌, ◌++◌, position_count, names_in_all, modes_of, view_row}
use Rattle.sharc_check.proofs.rules.names_in_row.Given as goal

abbrev pub invariant-loop-left : goal.invariant-loop-left
invariant-loop-left l = record {
  ends : l.left.first + l.left.count ≤ position_count l.program.typed;
  said : l.notes.items ++ names_in_all l.program.typed (modes_of l.program (view_row l.left)) ≡ l.fn.notes.items ++ names_in_all l.program.typed (modes_of l.program (view_row l.fn.row));
}

abbrev pub decreases-loop-left : goal.decreases-loop-left
decreases-loop-left l = l.left.count
