use Rattle.sharc_audit.proofs.{Imports.{◌+◌, ◌≤◌, length, text_lines}, Filing.Passed}
use Rattle.sharc_audit.proofs.file.too_many.Given as goal

abbrev pub invariant-loop-rest : goal.invariant-loop-rest
invariant-loop-rest l = record { passed : Passed (text_lines l.bytes) l.rest l.first l.n; room : l.n + length l.rest ≤ l.first + length l.bytes }

abbrev pub decreases-loop-rest : goal.decreases-loop-rest
decreases-loop-rest l = length l.rest
