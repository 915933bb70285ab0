use Rattle.sharc_schedule.proofs.Imports.{◌≡◌, ◌≤◌, ◌<◌, ◌+◌, ◌-◌, length, take, drop, get_or, lines_in, read_source, read_lines}
use Rattle.sharc_schedule.proofs.read.read_file.Given as goal

abbrev pub invariant-loop-end : goal.invariant-loop-end
invariant-loop-end l = record {
  within : l.end ≤ length l.bytes;
  line : l.line ≤ l.end + 2;
  newline : l.end < length l.bytes → get_or l.bytes l.end 0 ≡ 10;
  read : read_lines (lines_in l.bytes) ≡ read_source (take l.end l.bytes) (lines_in (drop (l.end + 1) l.bytes)) l.line;
}

abbrev pub decreases-loop-end : goal.decreases-loop-end
decreases-loop-end l = length l.bytes - l.end
