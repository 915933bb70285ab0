use Rattle.sharc_tree.specs.Children.{call_is}
use Rattle.sharc_tree.proofs.tree.expression.Expr.call.Goals as goal

pub returns : goal.returns
returns c = call_is c.args.span c.args.name c.args.arguments
