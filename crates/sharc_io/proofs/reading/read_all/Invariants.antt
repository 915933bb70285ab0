-- The bytes so far are what was taken, they are within the limit, and the count has not fallen.
use Rattle.std.proofs.Common.{vec_len, ◌-◌, ◌≤◌}
use Rattle.std.specs.Io.KnownBytes.{Consumes}
use Rattle.sharc_io.proofs.reading.read_all.Given as goal

abbrev pub invariant-loop-bytes : goal.invariant-loop-bytes
invariant-loop-bytes g l =
    let source = g.S.Source in
    record {
      in_limit : vec_len l.bytes ≤ l.limit;
      taken : Consumes (source.left l.fn.source) (source.left l.source) l.bytes.items;
      faults : source.faults l.fn.source ≤ source.faults l.source;
    }

abbrev pub decreases-loop-bytes : goal.decreases-loop-bytes
decreases-loop-bytes g l = l.limit - vec_len l.bytes
