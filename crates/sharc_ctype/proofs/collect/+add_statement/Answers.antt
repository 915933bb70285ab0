use Rattle.sharc_ctype.proofs.Imports.{◌≡◌, ◌++◌, ap, sym, ◌∙◌, OnOk, subst, view_block, view_stmt, view_statements, statement_entities, statements_entities}
use Rattle.sharc_ctype.proofs.collect.+add_statement.Goals as goal

pub add_statement-returns-in-Block : goal.add_statement-returns-in-Block
add_statement-returns-in-Block t c =
    let old = c.args.entities.now in
    let new = c.add_statements.new.entities in
    let same : statements_entities (view_statements c.as_slice.result.now) ≡ statement_entities (view_stmt c.args.stmt.now) =
    ap (λ l. statements_entities (view_statements l)) c.as_slice.ensures.value ∙ ap statement_entities (sym (view_block c.args.stmt.now c.in-Block.field-0 c.in-Block.list c.in-Block.is)) in
    subst (λ l. OnOk c.add_statements.result (new ≡ old ++ l)) same c.add_statements.ensures
