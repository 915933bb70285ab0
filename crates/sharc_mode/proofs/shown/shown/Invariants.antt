use Rattle.sharc_mode.proofs.Imports.{◌≡◌, ◌+◌, ◌≤◌, ◌∷◌, ◌++◌, map, Some, None, position_count, modes_of, mode_of, view_row}
use Rattle.sharc_mode.proofs.shown.shown.Given as goal

abbrev pub invariant-loop-left : goal.invariant-loop-left
invariant-loop-left l = record {
  ends : l.left.first + l.left.count ≤ position_count l.program.typed;
  levels : l.levels.items ++ map (λ s. Some (mode_of l.program.typed s)) (modes_of l.program (view_row l.left)) ≡ None ∷ map (λ s. Some (mode_of l.program.typed s)) (modes_of l.program (view_row l.fn.row));
}

abbrev pub decreases-loop-left : goal.decreases-loop-left
decreases-loop-left l = l.left.count
