use Rattle.sharc_infer.proofs.Imports.{◌≡◌, ◌++◌, ap, sym, ◌∙◌, OnOk, subst, view_block, in_statement, in_statements, view_stmt, view_statements, casts_in}
use Rattle.sharc_infer.proofs.casts.+statement.Goals as goal

pub statement-returns-in-Block : goal.statement-returns-in-Block
statement-returns-in-Block t c =
    let r = c.args.typed.now in
    let same : casts_in r (in_statements (view_statements c.as_slice.result.now)) ≡ casts_in r (in_statement (view_stmt c.args.stmt.now)) =
    ap (λ l. casts_in r (in_statements (view_statements l))) c.as_slice.ensures.value ∙ ap (λ s. casts_in r (in_statement s)) (sym (view_block c.args.stmt.now c.in-Block.field-0 c.in-Block.all c.in-Block.is)) in
    subst (λ l. OnOk c.statements.result (c.statements.new.links.items ≡ c.args.links.now.items ++ l)) same c.statements.ensures
