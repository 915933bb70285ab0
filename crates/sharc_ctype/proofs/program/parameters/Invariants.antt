use Rattle.sharc_ctype.proofs.Imports.{◌≡◌, drop, fold, noted, with_names, parameters_notes, with_parameters}
use Rattle.sharc_ctype.proofs.program.parameters.Given as goal

abbrev pub invariant-loop-i : goal.invariant-loop-i
invariant-loop-i l = record {
  scope : with_names l.scope (with_parameters l.block l.scope.names (drop l.i l.list)) ≡ with_names l.fn.scope (with_parameters l.block l.fn.scope.names l.list);
  found : fold noted l.found (parameters_notes l.block l.i l.scope (drop l.i l.list)) ≡ fold noted l.fn.found (parameters_notes l.block 0 l.fn.scope l.list);
}
