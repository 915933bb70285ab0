use Rattle.sharc_tree.specs.Children.{view_block}
use Rattle.sharc_tree.proofs.tree.statement.Stmt.as_block.Goals as goal

pub returns-in-Block : goal.returns-in-Block
returns-in-Block c = rw (view_block c.args.self.now c.in-Block.field-0 c.in-Block.statements c.in-Block.is, c.as_slice.ensures.value)
