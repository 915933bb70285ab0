use Rattle.sharc_seq.proofs.Imports.{events_left, IsTable}
use Rattle.sharc_seq.proofs.run.run_seq.Given as goal

abbrev pub invariant-turns : goal.invariant-turns
invariant-turns g l = IsTable (goal.F-post g l.chooser.f) l.code l.shape l.limit l.table

abbrev pub decreases-turns : goal.decreases-turns
decreases-turns g l = events_left l.limit l.table.walk
