use Rattle.sharc_dataflow.proofs.Imports.{◌≡◌, ◌++◌, drop, all_nulled}
use Rattle.sharc_dataflow.proofs.uses.all_nulled.Given as goal

abbrev pub invariant-loop-step : goal.invariant-loop-step
invariant-loop-step l = l.list.items ++ all_nulled (drop l.step-index l.steps) ≡ all_nulled l.steps
