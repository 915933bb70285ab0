use Rattle.sharc_check.proofs.Imports.{◌≡◌, drop, first_unmet, view_passed}
use Rattle.sharc_check.proofs.rules.first_unmet.Given as goal

abbrev pub invariant-loop-parameter : goal.invariant-loop-parameter
invariant-loop-parameter l =
    first_unmet l.program l.passing.parameters.now (view_passed l.passing.passed) (drop l.parameter-index l.passing.parameters.now)
    ≡ first_unmet l.program l.passing.parameters.now (view_passed l.passing.passed) l.passing.parameters.now
