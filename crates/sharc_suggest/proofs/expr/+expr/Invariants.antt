use Rattle.sharc_suggest.proofs.Imports.{◌≡◌, zero, ◌++◌, drop, view_arguments, suggested_in, beyond, all_givings, told}
use Rattle.sharc_suggest.proofs.expr.+expr.Given as goal

abbrev pub invariant-arguments-loop-expr : goal.invariant-arguments-loop-expr
invariant-arguments-loop-expr l = record {
  left : l.left ≡ beyond l.expr-index l.passing.parameters.now;
  casts : l.casts.items ++ suggested_in l.known.moded.now (told l.known.named.now) (all_givings l.scope l.function (view_arguments l.list) l.expr-index (view_arguments (drop l.expr-index l.list)))
      ≡ l.fn.casts.items ++ suggested_in l.known.moded.now (told l.known.named.now) (all_givings l.scope l.function (view_arguments l.list) zero (view_arguments l.list));
}
