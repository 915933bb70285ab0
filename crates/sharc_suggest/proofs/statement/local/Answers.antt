use Rattle.sharc_suggest.proofs.Imports.{◌≡◌, ◌++◌, Some, ap, sym, ◌∙◌, subst, OnOk, view_local, written, declared_row, modes_of, suggested_in, of_declared, option_givings, right_givings, told}
use Rattle.sharc_suggest.proofs.statement.local.Goals as goal

pub returns-clause-casts : goal.returns-clause-casts
returns-clause-casts c =
    let m = c.args.known.moded.now in
    let l = view_local c.args.local.now in
    let token = l.declaration.name.site.token in
    let row = c.declared_row-want.ensures.row ∙ ap (λ r. declared_row r written token) c.typed.ensures in
    subst (λ s. OnOk c.initial.result (c.initial.new.casts.items ≡ c.args.casts.now.items ++ suggested_in m (told c.args.known.named.now) (option_givings (right_givings s (of_declared token)) l.initial)))
    c.in_ok-declare.ensures (c.initial.ensures (of_declared token) (ap (λ w. Some (modes_of m w)) (sym row)))
