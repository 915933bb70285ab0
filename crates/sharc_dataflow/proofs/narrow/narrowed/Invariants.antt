use Rattle.sharc_dataflow.proofs.Imports.{◌≡◌, drop, narrowed, narrow_start, view_narrowing}
use Rattle.sharc_dataflow.proofs.narrow.narrowed.Given as goal

abbrev pub invariant-loop-step : goal.invariant-loop-step
invariant-loop-step l = narrowed l.variables.first l.variables.last (drop l.step-index l.steps) (view_narrowing l.narrowed) ≡ narrowed l.variables.first l.variables.last l.steps narrow_start
