use Rattle.sharc_ctype.proofs.{Imports.{ℕ, ap, sym, ◌∙◌, block, view_stmt, view_statements, view_block, Around, view_around}, StatementLemmas.block_noted}
use Rattle.sharc_ctype.proofs.statement.+stmt.Goals as goal

pub statement-returns-in_ok-leave-in-Block-clause-found : goal.statement-returns-in_ok-leave-in-Block-clause-found
statement-returns-in_ok-leave-in-Block-clause-found t c =
    let list = c.deref.result.now in
    let a = view_around c.args.around in
    block_noted a (view_around c.opened.result) c.args.scope.now (view_stmt c.args.stmt.now) c.in-Block.field-0 (view_statements list) c.args.found.now c.statements.new.found
    (view_block c.args.stmt.now c.in-Block.field-0 c.in-Block.list c.in-Block.is ∙ ap (λ l. block c.in-Block.field-0 (view_statements l)) (sym c.deref.ensures.value))
    (ap view_around c.opened.ensures ∙ ap (λ (n : ℕ). let i : Around = record { result = a.result; in_loop = a.in_loop; block = n } in i) c.len-mark.ensures)
    c.in_ok-statements-in-Block.ensures.found
