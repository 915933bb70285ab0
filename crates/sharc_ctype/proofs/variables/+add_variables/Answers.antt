use Rattle.sharc_ctype.proofs.Imports.{◌≡◌, ◌++◌, ap, sym, ◌∙◌, OnOk, subst, view_block, view_stmt, view_statements, initialised_in, initialised_in_all, assigned_in, assigned_in_all}
use Rattle.sharc_ctype.proofs.variables.+add_variables.Goals as goal

pub add_variables-returns-in-Block-clause-initialised : goal.add_variables-returns-in-Block-clause-initialised
add_variables-returns-in-Block-clause-initialised t c =
    let old = c.args.variables.now.initialised.items in
    let new = c.add_all_variables.new.variables.initialised.items in
    let same : initialised_in_all (view_statements c.as_slice.result.now) ≡ initialised_in (view_stmt c.args.stmt.now) =
    ap (λ l. initialised_in_all (view_statements l)) c.as_slice.ensures.value ∙ ap initialised_in (sym (view_block c.args.stmt.now c.in-Block.field-0 c.in-Block.list c.in-Block.is)) in
    subst (λ l. OnOk c.add_all_variables.result (new ≡ old ++ l)) same c.add_all_variables.ensures.initialised

pub add_variables-returns-in-Block-clause-assigned : goal.add_variables-returns-in-Block-clause-assigned
add_variables-returns-in-Block-clause-assigned t c =
    let names = c.args.names.now in
    let old = c.args.variables.now.assigned.items in
    let new = c.add_all_variables.new.variables.assigned.items in
    let same : assigned_in_all names (view_statements c.as_slice.result.now) ≡ assigned_in names (view_stmt c.args.stmt.now) =
    ap (λ l. assigned_in_all names (view_statements l)) c.as_slice.ensures.value ∙ ap (assigned_in names) (sym (view_block c.args.stmt.now c.in-Block.field-0 c.in-Block.list c.in-Block.is)) in
    subst (λ l. OnOk c.add_all_variables.result (new ≡ old ++ l)) same c.add_all_variables.ensures.assigned
