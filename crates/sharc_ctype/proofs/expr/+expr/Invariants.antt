use Rattle.sharc_ctype.proofs.Imports.{◌≡◌, ◌&&◌, drop, fold, view_arguments, view_wanted, noted, are_fine, notes_of_all}
use Rattle.sharc_ctype.proofs.expr.+expr.Given as goal

abbrev pub invariant-arguments-loop-expr : goal.invariant-arguments-loop-expr
invariant-arguments-loop-expr l = record {
  fine : (l.fine && are_fine l.scope (view_wanted l.left) (view_arguments (drop l.expr-index l.list))) ≡ are_fine l.scope (view_wanted l.wanted) (view_arguments l.list);
  found : fold noted l.found (notes_of_all l.scope (view_wanted l.left) (view_arguments (drop l.expr-index l.list))) ≡ fold noted l.fn.found (notes_of_all l.scope (view_wanted l.wanted) (view_arguments l.list));
}
