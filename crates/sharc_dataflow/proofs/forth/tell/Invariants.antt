use Rattle.sharc_dataflow.proofs.Imports.{◌≡◌, drop, told, tell_start, view_tells}
use Rattle.sharc_dataflow.proofs.forth.tell.Given as goal

abbrev pub invariant-loop-step : goal.invariant-loop-step
invariant-loop-step l = told l.x (drop l.step-index l.steps) (view_tells l.tells) ≡ told l.x l.steps (tell_start l.fn.heads.items l.fn.found.items)
