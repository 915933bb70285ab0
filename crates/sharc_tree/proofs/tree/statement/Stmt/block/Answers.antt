use Rattle.sharc_tree.specs.Children.{block_is}
use Rattle.sharc_tree.proofs.tree.statement.Stmt.block.Goals as goal

pub returns : goal.returns
returns c = block_is c.args.span c.args.statements
