use Rattle.sharc_reach.proofs.Imports.{◌≡◌, ◌++◌, ◌≤◌, drop, length, base_marks, levels_marks, names}
use Rattle.sharc_reach.proofs.names.type_names.Given as goal

abbrev pub invariant-loop-above : goal.invariant-loop-above
invariant-loop-above l = record {
  within : l.above ≤ length l.levels;
  added : l.list.items ≡ l.fn.list.items ++ names l.function (levels_marks l.written.mode_first (base_marks l.written.ctype.base l.written.base.token) (drop l.above l.levels));
}

abbrev pub decreases-loop-above : goal.decreases-loop-above
decreases-loop-above l = l.above
