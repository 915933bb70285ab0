use Rattle.sharc_guard.proofs.{Imports.take, Targets.AreEntered}
use Rattle.sharc_guard.proofs.marks.mark_entries.Given as goal

abbrev pub invariant-loop-function : goal.invariant-loop-function
invariant-loop-function l = AreEntered l.fn.targets l.targets (take l.function-index l.functions)
