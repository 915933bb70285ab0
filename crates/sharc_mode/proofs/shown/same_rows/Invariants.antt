use Rattle.sharc_mode.proofs.Imports.{◌≡◌, ◌+◌, ◌≤◌, position_count, modes_of, same_all, view_row}
use Rattle.sharc_mode.proofs.shown.same_rows.Given as goal

abbrev pub invariant-loop-a : goal.invariant-loop-a
invariant-loop-a l = record {
  first : l.a.first + l.a.count ≤ position_count l.program.typed;
  second : l.b.first + l.b.count ≤ position_count l.program.typed;
  same : same_all l.program.typed (modes_of l.program (view_row l.a)) (modes_of l.program (view_row l.b)) ≡ same_all l.program.typed (modes_of l.program (view_row l.fn.a)) (modes_of l.program (view_row l.fn.b));
}

abbrev pub decreases-loop-a : goal.decreases-loop-a
decreases-loop-a l = l.a.count
