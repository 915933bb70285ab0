use Rattle.sharc_audit.proofs.{Imports.{◌+◌, ◌≤◌, length}, Filing.Heading}
use Rattle.sharc_audit.proofs.file.head.Given as goal

abbrev pub invariant-loop-rest : goal.invariant-loop-rest
invariant-loop-rest l = record { passed : Heading l.bytes l.rest l.n; room : l.n + length l.rest ≤ length l.bytes + 1 }

abbrev pub decreases-loop-rest : goal.decreases-loop-rest
decreases-loop-rest l = length l.rest
