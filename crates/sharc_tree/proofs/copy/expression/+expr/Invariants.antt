use Rattle.std.proofs.Common.{◌≡◌, take}
use Rattle.sharc_tree.specs.View.{view_arguments}
use Rattle.sharc_tree.proofs.copy.expression.+expr.Given as goal

abbrev pub invariant-copy_arguments-loop-expr : goal.invariant-copy_arguments-loop-expr
invariant-copy_arguments-loop-expr l = view_arguments l.copied.items ≡ view_arguments (take l.expr-index l.list)
