use Rattle.sharc_live.proofs.Imports.{◌≡◌, ◌++◌, drop, view_arguments, listing, flow_all}
use Rattle.sharc_live.proofs.expression.+expression.Given as goal

abbrev pub invariant-arguments-loop-expr : goal.invariant-arguments-loop-expr
invariant-arguments-loop-expr l = l.steps.items ++ listing (flow_all l.typed (view_arguments (drop l.expr-index l.all))) ≡ l.fn.steps.items ++ listing (flow_all l.typed (view_arguments l.all))
