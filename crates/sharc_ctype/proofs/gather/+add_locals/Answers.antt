use Rattle.sharc_ctype.proofs.Imports.{◌≡◌, ◌++◌, ap, sym, ◌∙◌, OnOk, subst, view_block, view_stmt, view_statements, locals_in, locals_in_all}
use Rattle.sharc_ctype.proofs.gather.+add_locals.Goals as goal

pub add_locals-returns-in-Block : goal.add_locals-returns-in-Block
add_locals-returns-in-Block t c =
    let old = c.args.declared.now in
    let new = c.add_all_locals.new.declared in
    let same : locals_in_all (view_statements c.as_slice.result.now) ≡ locals_in (view_stmt c.args.stmt.now) =
    ap (λ l. locals_in_all (view_statements l)) c.as_slice.ensures.value ∙ ap locals_in (sym (view_block c.args.stmt.now c.in-Block.field-0 c.in-Block.list c.in-Block.is)) in
    subst (λ l. OnOk c.add_all_locals.result (new ≡ old ++ l)) same c.add_all_locals.ensures
