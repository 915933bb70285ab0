use Rattle.std.proofs.Common.{ap, ◌∙◌}
use Rattle.sharc_tree.specs.{Tree.block, Children.view_block}
use Rattle.sharc_tree.proofs.Copies.{statement_copied}
use Rattle.sharc_tree.proofs.copy.statement.+stmt.Goals as goal

pub copy_statements-loop-stmt-preserved : goal.copy_statements-loop-stmt-preserved
copy_statements-loop-stmt-preserved t c =
    statement_copied c.loop-stmt.copied.items c.push.new.self.items c.args.list.now c.loop-stmt.stmt-index c.in_ok-copy_stmt.field-0 c.stmt-item.result c.loop-stmt-test.true c.in_ok-push.ensures.items c.stmt-item.is c.in_ok-copy_stmt.ensures c.loop-stmt.invariant

pub copy_stmt-returns-in_ok-copy_statements-in-Block : goal.copy_stmt-returns-in_ok-copy_statements-in-Block
copy_stmt-returns-in_ok-copy_statements-in-Block t c =
    rw (view_block c.args.stmt.now c.in-Block.span c.in-Block.statements c.in-Block.is, ← c.deref.ensures.value) (c.block.ensures ∙ ap (block c.in-Block.span) c.in_ok-copy_statements-in-Block.ensures)
