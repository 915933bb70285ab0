use Rattle.sharc_suggest_laws.proofs.{Imports.{ap, ◌∙◌, block, view_block}, WriteLemmas.statement_written}
use Rattle.sharc_suggest_laws.proofs.statement.+stmt.Goals as goal

pub statements-loop-stmt-preserved : goal.statements-loop-stmt-preserved
statements-loop-stmt-preserved t c =
    statement_written c.args.c.now c.loop-stmt.written.items c.push.new.self.items c.args.list.now c.loop-stmt.stmt-index c.in_ok-statement.field-0 c.stmt-item.result c.loop-stmt-test.true c.in_ok-push.ensures.items c.stmt-item.is c.in_ok-statement.ensures c.loop-stmt.invariant

pub statement-returns-in_ok-statements-in-Block : goal.statement-returns-in_ok-statements-in-Block
statement-returns-in_ok-statements-in-Block t c =
    rw (view_block c.args.stmt.now c.in-Block.span c.in-Block.all c.in-Block.is, ← c.deref.ensures.value) (c.block.ensures ∙ ap (block c.in-Block.span) c.in_ok-statements-in-Block.ensures)
