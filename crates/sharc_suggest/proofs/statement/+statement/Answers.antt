use Rattle.sharc_suggest.proofs.Imports.{◌≡◌, ◌++◌, ap, sym, ◌∙◌, view_block, view_stmt, view_statements, suggested_in, givings_in, givings_in_all, told}
use Rattle.sharc_suggest.proofs.statement.+statement.Goals as goal

pub statement-returns-in_ok-leave-in-Block-clause-casts : goal.statement-returns-in_ok-leave-in-Block-clause-casts
statement-returns-in_ok-leave-in-Block-clause-casts t c =
    let m = c.args.known.moded.now in
    let named = told c.args.known.named.now in
    let scope = c.args.scope.now in
    let f = c.args.function in
    let same : suggested_in m named (givings_in_all scope f (view_statements c.as_slice.result.now)) ≡ suggested_in m named (givings_in scope f (view_stmt c.args.stmt.now)) =
    ap (λ l. suggested_in m named (givings_in_all scope f (view_statements l))) c.as_slice.ensures.value
    ∙ ap (λ s. suggested_in m named (givings_in scope f s)) (sym (view_block c.args.stmt.now c.in-Block.field-0 c.in-Block.all c.in-Block.is)) in
    c.in_ok-statements-in-Block.ensures.casts ∙ ap (λ l. c.args.casts.now.items ++ l) same
