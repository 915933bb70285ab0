use Rattle.sharc_tree.specs.Children.{view_call}
use Rattle.sharc_tree.proofs.tree.expression.Expr.as_call.Goals as goal

pub returns-in-Call : goal.returns-in-Call
returns-in-Call c = rw (view_call c.args.self.now c.in-Call.field-0 c.in-Call.name c.in-Call.arguments c.in-Call.is, c.as_slice.ensures.value)
