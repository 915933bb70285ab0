use Rattle.sharc_infer.proofs.Imports.{◌≡◌, ◌++◌, ap, sym, ◌∙◌, OnOk, subst, view_block, view_stmt, view_statements, statement_transfers, statements_transfers, given}
use Rattle.sharc_infer.proofs.transfers.+statement.Goals as goal

pub statement-returns-in-Block : goal.statement-returns-in-Block
statement-returns-in-Block t c =
    let r = c.args.typed.now in
    let f = c.args.function in
    let w = c.args.returns.now in
    let same : given r f (statements_transfers r w (view_statements c.as_slice.result.now)) ≡ given r f (statement_transfers r w (view_stmt c.args.stmt.now)) =
    ap (λ l. given r f (statements_transfers r w (view_statements l))) c.as_slice.ensures.value ∙ ap (λ s. given r f (statement_transfers r w s)) (sym (view_block c.args.stmt.now c.in-Block.field-0 c.in-Block.all c.in-Block.is)) in
    subst (λ l. OnOk c.statements.result (c.statements.new.links.items ≡ c.args.links.now.items ++ l)) same c.statements.ensures
