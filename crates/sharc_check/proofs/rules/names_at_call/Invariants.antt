use Rattle.sharc_check.proofs.Imports.{◌≡◌, ◌++◌, drop, names_at_call, view_passed}
use Rattle.sharc_check.proofs.rules.names_at_call.Given as goal

abbrev pub invariant-loop-parameter : goal.invariant-loop-parameter
invariant-loop-parameter l =
    l.notes.items ++ names_at_call l.program l.passing.parameters.now (view_passed l.passing.passed) (drop l.parameter-index l.passing.parameters.now)
    ≡ l.fn.notes.items ++ names_at_call l.program l.passing.parameters.now (view_passed l.passing.passed) l.passing.parameters.now
