use Rattle.sharc_guard.proofs.{Imports.{flat_of, notes_of}, Targets.IsAt}
use Rattle.sharc_guard.proofs.marks.mark_all.Given as goal

abbrev pub invariant-loop-n : goal.invariant-loop-n
invariant-loop-n l = IsAt (flat_of l.flat) l.n l.marks.items (notes_of l.knowledge)
