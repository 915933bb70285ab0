use Rattle.sharc_reach.proofs.Imports.{◌≡◌, ◌++◌, ap, sym, ◌∙◌, OnOk, subst, view_block, view_stmt, view_statements, statement_mentions, statements_mentions}
use Rattle.sharc_reach.proofs.walk.+statement.Goals as goal

pub statement-returns-in-Block : goal.statement-returns-in-Block
statement-returns-in-Block t c =
    let n = c.args.function in
    let same : statements_mentions n (view_statements c.as_slice.result.now) ≡ statement_mentions n (view_stmt c.args.stmt.now) =
    ap (λ l. statements_mentions n (view_statements l)) c.as_slice.ensures.value ∙ ap (statement_mentions n) (sym (view_block c.args.stmt.now c.in-Block.field-0 c.in-Block.all c.in-Block.is)) in
    subst (λ l. OnOk c.statements.result (c.statements.new.list.items ≡ c.args.list.now.items ++ l)) same c.statements.ensures
