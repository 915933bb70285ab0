use Rattle.sharc_guard.proofs.Targets.{AreLed}
use Rattle.sharc_guard.proofs.marks.mark_led_to.Given as goal

abbrev pub invariant-loop-n : goal.invariant-loop-n
invariant-loop-n l = AreLed l.fn.targets l.targets l.lines l.n
