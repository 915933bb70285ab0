use Rattle.sharc_flatten.proofs.Imports.{◌≡◌, ◌≤◌, ◌++◌, length, take, leaves, innermost}
use Rattle.sharc_flatten.proofs.scope.leave.Given as goal

abbrev pub decreases-loop-depth : goal.decreases-loop-depth
decreases-loop-depth l = l.depth

abbrev pub invariant-loop-depth : goal.invariant-loop-depth
invariant-loop-depth l = record {
  few : l.depth ≤ length l.marks;
  code : l.lines.items ++ leaves l.left (innermost l.kept (take l.depth l.marks)) ≡ l.initial.lines.items ++ leaves l.scope (innermost l.kept l.marks);
}
