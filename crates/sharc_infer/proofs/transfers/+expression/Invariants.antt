use Rattle.sharc_infer.proofs.Imports.{◌≡◌, ◌++◌, drop, view_arguments, argument_transfers, given}
use Rattle.sharc_infer.proofs.transfers.+expression.Given as goal

abbrev pub invariant-arguments-loop-expr : goal.invariant-arguments-loop-expr
invariant-arguments-loop-expr l = l.links.items ++ given l.typed l.function (argument_transfers l.typed (view_arguments (drop l.expr-index l.all))) ≡ l.fn.links.items ++ given l.typed l.function (argument_transfers l.typed (view_arguments l.all))
