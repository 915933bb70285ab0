use Rattle.sharc_check.proofs.Imports.{◌≡◌, ◌+◌, ◌≤◌, position_count, unmet_in, modes_of, view_row, option_or, view_passed, view_locks}
use Rattle.sharc_check.proofs.rules.unmet_in.Given as goal

abbrev pub invariant-loop-left : goal.invariant-loop-left
invariant-loop-left l = record {
  ends : l.left.first + l.left.count ≤ position_count l.program.typed;
  first : option_or (unmet_in l.program.typed l.passing.parameters.now (view_passed l.passing.passed) (modes_of l.program (view_row l.left))) (view_locks l.found) ≡ unmet_in l.program.typed l.passing.parameters.now (view_passed l.passing.passed) (modes_of l.program (view_row l.fn.row));
}

abbrev pub decreases-loop-left : goal.decreases-loop-left
decreases-loop-left l = l.left.count
