use Rattle.sharc_dataflow.proofs.Imports.{◌≡◌, ◌≤◌, length, drop, summed, sum_start, view_sums}
use Rattle.sharc_dataflow.proofs.back.heads_of.Given as goal

abbrev pub invariant-loop-i : goal.invariant-loop-i
invariant-loop-i l = (l.i ≤ length l.steps) × (view_sums l.sums ≡ summed l.x (drop l.i l.steps) sum_start)

abbrev pub decreases-loop-i : goal.decreases-loop-i
decreases-loop-i l = l.i
