use Rattle.sharc_schedule.proofs.{Imports.{◌≤◌, ◌-◌, length, take, drop}, Numbers.Lacks}
use Rattle.sharc_schedule.proofs.read.line_end.Given as goal

abbrev pub invariant-loop-end : goal.invariant-loop-end
invariant-loop-end l = record {
  order : l.start ≤ l.end;
  within : l.end ≤ length l.bytes;
  line : Lacks 10 (take (l.end - l.start) (drop l.start l.bytes));
}

abbrev pub decreases-loop-end : goal.decreases-loop-end
decreases-loop-end l = length l.bytes - l.end
