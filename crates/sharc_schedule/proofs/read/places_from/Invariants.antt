use Rattle.sharc_schedule.proofs.{Imports.{◌≡◌, ◌≤◌, ◌+◌, ◌-◌, length, drop, lines_in, read_places}, Scanning.with_front}
use Rattle.sharc_schedule.proofs.read.places_from.Given as goal

abbrev pub invariant-loop-at : goal.invariant-loop-at
invariant-loop-at l = record {
  within : l.at ≤ length l.bytes + 1;
  line : l.line ≤ l.at + 2;
  read : read_places (lines_in (drop l.start l.bytes)) l.first ≡ with_front l.places.items (read_places (lines_in (drop l.at l.bytes)) l.line);
}

abbrev pub decreases-loop-at : goal.decreases-loop-at
decreases-loop-at l = length l.bytes + 1 - l.at
