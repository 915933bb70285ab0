use Rattle.sharc_suggest.proofs.Imports.{◌≡◌, drop, with_parameters}
use Rattle.sharc_suggest.proofs.statement.parameters.Given as goal

abbrev pub invariant-loop-parameter : goal.invariant-loop-parameter
invariant-loop-parameter l = with_parameters l.scope (drop l.parameter-index l.list) ≡ with_parameters l.fn.scope l.list
