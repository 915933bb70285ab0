use Rattle.sharc_top.proofs.Imports.{◌≤◌, ◌-◌, length, take, Appends}
use Rattle.sharc_top.proofs.text.write_lines.Given as goal

-- what was written is the text up to here, and the sink's counts have not fallen
abbrev pub invariant-loop-from : goal.invariant-loop-from
invariant-loop-from g l =
    let sink = g.O.Sink in
    record {
      within : l.from ≤ length l.text;
      written : Appends (sink.held l.fn.out) (sink.held l.out) (take l.from l.text);
      faults : sink.faults l.fn.out ≤ sink.faults l.out;
      stalls : sink.stalls l.fn.out ≤ sink.stalls l.out;
    }

abbrev pub decreases-loop-from : goal.decreases-loop-from
decreases-loop-from g l = length l.text - l.from
