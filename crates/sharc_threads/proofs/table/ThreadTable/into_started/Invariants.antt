use Rattle.sharc_threads.proofs.Imports.{◌≡◌, present}
use Rattle.sharc_threads.proofs.table.ThreadTable.into_started.Given as goal

abbrev pub invariant-loop-seat : goal.invariant-loop-seat
invariant-loop-seat l = l.threads.items ≡ present l.yielded
