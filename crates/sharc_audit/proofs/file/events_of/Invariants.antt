use Rattle.sharc_audit.proofs.{Imports.{◌+◌, ◌≤◌, length, text_lines}, Filing.Listing}
use Rattle.sharc_audit.proofs.file.events_of.Given as goal

abbrev pub invariant-loop-rest : goal.invariant-loop-rest
invariant-loop-rest l = record { passed : Listing (text_lines l.bytes) l.rest l.first l.n l.events.items; room : l.n + length l.rest ≤ l.first + length l.bytes; few : length l.events.items ≤ 4096 }

abbrev pub decreases-loop-rest : goal.decreases-loop-rest
decreases-loop-rest l = length l.rest
