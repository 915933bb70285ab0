use Rattle.sharc_tree.proofs.Copies.{argument_copied}
use Rattle.sharc_tree.specs.Children.{view_call}
use Rattle.sharc_tree.proofs.copy.expression.+expr.Goals as goal

pub copy_arguments-loop-expr-preserved : goal.copy_arguments-loop-expr-preserved
copy_arguments-loop-expr-preserved t c =
    argument_copied c.loop-expr.copied.items c.push.new.self.items c.args.list.now c.loop-expr.expr-index c.in_ok-copy_expr.field-0 c.expr-item.result c.loop-expr-test.true c.in_ok-push.ensures.items c.expr-item.is c.in_ok-copy_expr.ensures c.loop-expr.invariant

pub copy_expr-returns-in_ok-copy_arguments-in-Call : goal.copy_expr-returns-in_ok-copy_arguments-in-Call
copy_expr-returns-in_ok-copy_arguments-in-Call t c =
    rw (view_call c.args.expr.now c.in-Call.span c.in-Call.name c.in-Call.list c.in-Call.is, ← c.deref-in-Call.ensures.value, ← c.in_ok-copy_arguments-in-Call.ensures) c.copy_call.ensures
