use Rattle.sharc_check.proofs.Imports.{◌≡◌, ◌++◌, drop, flat_map, parameter_notes}
use Rattle.sharc_check.proofs.threads.parameters.Given as goal

abbrev pub invariant-loop-of : goal.invariant-loop-of
invariant-loop-of l = l.notes.items ++ flat_map (parameter_notes l.program l.name) (drop l.of-index l.all) ≡ l.fn.notes.items ++ flat_map (parameter_notes l.program l.name) l.all
