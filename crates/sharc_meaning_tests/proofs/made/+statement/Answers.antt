use Rattle.sharc_meaning_tests.proofs.Imports.{◌≡◌, ap, sym, ◌∙◌, view_block, view_statements, statement_makes, statements_make}
use Rattle.sharc_meaning_tests.proofs.made.+statement.Goals as goal

pub statement_makes-returns-in-Block : goal.statement_makes-returns-in-Block
statement_makes-returns-in-Block t c =
    let r = c.args.typed.now in
    c.statements_make.ensures
    ∙ ap (λ l. statements_make r c.args.token c.args.cell (view_statements l)) c.as_slice.ensures.value
    ∙ ap (statement_makes r c.args.token c.args.cell) (sym (view_block c.args.stmt.now c.in-Block.field-0 c.in-Block.all c.in-Block.is))
