use Rattle.sharc_ask.proofs.{Imports.{view_option, view_right, ◌≡◌, ap, sym, ◌∙◌, Some, declared_kind, view_kind, pointed, written, declared_row, private, view_sharing, initialised, right_value, variable, stored, Run, then_on, Value, gives, number, number_in, as_nothing}, Stating.initial_begins}
use Rattle.sharc_ask.proofs.statements.initial_plan.Goals as goal

pub returns-in-None-clause-means : goal.returns-in-None-clause-means
returns-in-None-clause-means c = λ on_call s. ap (λ o. gives as_nothing (initialised on_call c.args.program.now c.args.declaration.now (view_option view_right o)) s) c.in-None.is

pub returns-in-Some-clause-means : goal.returns-in-Some-clause-means
returns-in-Some-clause-means c = λ on_call s.
    let m = c.args.program.now in
    let d = c.args.declaration.now in
    let x = view_right c.in-Some.right in
    let rest : Value → Run Value = λ v. gives as_nothing (stored m.typed d.name.site (declared_kind d.written) private (variable d.name.site.token) (number_in v)) in
    let target : view_sharing c.pointed.result ≡ pointed m (Some (declared_row m.typed written d.name.site.token)) =
    c.pointed.ensures ∙ ap (λ z. pointed m (Some z)) (c.declared_row-row.ensures.row ∙ ap (λ z. declared_row z written d.name.site.token) c.typed.ensures) in
    ap (λ o. gives as_nothing (initialised on_call m d (view_option view_right o)) s) c.in-Some.is
    ∙ initial_begins on_call m d x s
    ∙ ap (λ z. then_on (gives number (right_value on_call m z (pointed m (Some (declared_row m.typed written d.name.site.token))) x) s) rest) (sym c.declared_kind.ensures)
    ∙ ap (λ z. then_on (gives number (right_value on_call m (view_kind c.declared_kind.result) z x) s) rest) (sym target)
