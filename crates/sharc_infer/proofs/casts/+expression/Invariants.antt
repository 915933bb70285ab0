use Rattle.sharc_infer.proofs.Imports.{◌≡◌, ◌++◌, drop, in_arguments, view_arguments, casts_in}
use Rattle.sharc_infer.proofs.casts.+expression.Given as goal

abbrev pub invariant-arguments-loop-expr : goal.invariant-arguments-loop-expr
invariant-arguments-loop-expr l = l.links.items ++ casts_in l.typed (in_arguments (view_arguments (drop l.expr-index l.all))) ≡ l.fn.links.items ++ casts_in l.typed (in_arguments (view_arguments l.all))
