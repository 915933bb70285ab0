use Rattle.sharc_check.proofs.Imports.{◌≡◌, ◌++◌, ap, sym, ◌∙◌, OnOk, subst, view_block, view_stmt, view_statements, notes_in, notes_in_all}
use Rattle.sharc_check.proofs.statement.+statement.Goals as goal

pub statement-returns-in-Block : goal.statement-returns-in-Block
statement-returns-in-Block t c =
    let m = c.args.program.now in
    let f = c.args.function in
    let same : notes_in_all m f (view_statements c.as_slice.result.now) ≡ notes_in m f (view_stmt c.args.stmt.now) =
    ap (λ l. notes_in_all m f (view_statements l)) c.as_slice.ensures.value ∙ ap (notes_in m f) (sym (view_block c.args.stmt.now c.in-Block.field-0 c.in-Block.all c.in-Block.is)) in
    subst (λ l. OnOk c.statements.result (c.statements.new.notes.items ≡ c.args.notes.now.items ++ l)) same c.statements.ensures
