use Rattle.sharc_live.proofs.Imports.{◌≡◌, ◌++◌, drop, listing, parameters_flow}
use Rattle.sharc_live.proofs.statement.parameters.Given as goal

abbrev pub invariant-loop-of : goal.invariant-loop-of
invariant-loop-of l = l.steps.items ++ listing (parameters_flow (drop l.of-index l.all)) ≡ l.fn.steps.items ++ listing (parameters_flow l.all)
