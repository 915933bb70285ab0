use Rattle.sharc_suggest.proofs.Imports.{◌≡◌, ◌+◌, ◌≤◌, position_count, modes_of, view_row, keeps_all}
use Rattle.sharc_suggest.proofs.repair.keeps_all.Given as goal

abbrev pub invariant-loop-left : goal.invariant-loop-left
invariant-loop-left l = record {
  ends : l.left.first + l.left.count ≤ position_count l.program.typed;
  kept : keeps_all l.program.typed l.scope (modes_of l.program (view_row l.left)) ≡ keeps_all l.program.typed l.scope (modes_of l.program (view_row l.fn.row));
}

abbrev pub decreases-loop-left : goal.decreases-loop-left
decreases-loop-left l = l.left.count
