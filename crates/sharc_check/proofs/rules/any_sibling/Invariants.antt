use Rattle.sharc_check.proofs.Imports.{◌≡◌, ◌+◌, ◌≤◌, position_count, modes_of, is_sibling, view_row, list_any}
use Rattle.sharc_check.proofs.rules.any_sibling.Given as goal

abbrev pub invariant-loop-left : goal.invariant-loop-left
invariant-loop-left l = record {
  ends : l.left.first + l.left.count ≤ position_count l.program.typed;
  any : list_any (is_sibling l.program.typed) (modes_of l.program (view_row l.left)) ≡ list_any (is_sibling l.program.typed) (modes_of l.program (view_row l.fn.row));
}

abbrev pub decreases-loop-left : goal.decreases-loop-left
decreases-loop-left l = l.left.count
