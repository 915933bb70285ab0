use Rattle.sharc_ctype.proofs.Imports.{◌≡◌, drop, fold, view_statements, with_names, after_all, notes_in_all, view_around, noted}
use Rattle.sharc_ctype.proofs.statement.+stmt.Given as goal

abbrev pub invariant-statements-loop-stmt : goal.invariant-statements-loop-stmt
invariant-statements-loop-stmt l = record {
  scope : with_names l.scope (after_all (view_around l.around) l.scope.names (view_statements (drop l.stmt-index l.list))) ≡ with_names l.fn.scope (after_all (view_around l.around) l.fn.scope.names (view_statements l.list));
  found : fold noted l.found (notes_in_all (view_around l.around) l.scope (view_statements (drop l.stmt-index l.list))) ≡ fold noted l.fn.found (notes_in_all (view_around l.around) l.fn.scope (view_statements l.list));
}
