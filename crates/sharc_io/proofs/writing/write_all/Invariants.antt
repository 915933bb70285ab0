-- The front of the bytes has gone out, and no count has fallen.
use Rattle.std.proofs.Common.{length, ◌-◌, ◌≤◌, take}
use Rattle.std.specs.Io.KnownBytes.{Appends}
use Rattle.sharc_io.proofs.writing.write_all.Given as goal

abbrev pub invariant-loop-written : goal.invariant-loop-written
invariant-loop-written g l =
    let sink = g.O.Sink in
    record {
      in_bytes : l.written ≤ length l.bytes;
      out : Appends (sink.held l.fn.sink) (sink.held l.sink) (take l.written l.bytes);
      faults : sink.faults l.fn.sink ≤ sink.faults l.sink;
      stalls : sink.stalls l.fn.sink ≤ sink.stalls l.sink;
    }

abbrev pub decreases-loop-written : goal.decreases-loop-written
decreases-loop-written g l = length l.bytes - l.written
