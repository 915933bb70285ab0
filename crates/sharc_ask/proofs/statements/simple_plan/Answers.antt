use Rattle.sharc_ask.proofs.{Imports.{view_expr, view_right, view_simple, ◌≡◌, length, arith, ap, sym, ◌∙◌, Known, ends_above, assigned_to, gives, as_nothing, place, place_in, kind_at, pointed, row_at, place_of, then_on, done_simple, right_value}, Stating.{assign_begins, call_begins}}
use Rattle.sharc_ask.proofs.statements.simple_plan.Goals as goal

pub returns-in-Assign-clause-means : goal.returns-in-Assign-clause-means
returns-in-Assign-clause-means c = λ on_call m s is.
    let w = c.in-Assign in
    let u = view_expr w.left in
    let right = right_value on_call m (kind_at m.typed u) (pointed m (row_at m.typed u)) (view_right w.right) in
    let many : length s.frame.temporaries ≡ c.len-mark.result = ap (λ (z : Known). length z.temporaries) is ∙ omega (arith, c.len-mark.ensures) in
    ap (λ x. gives as_nothing (done_simple on_call m (view_simple x)) s) w.is
    ∙ assign_begins on_call m w.field-0 u (view_right w.right) c.len-mark.result s many
    ∙ ap (λ z. then_on (gives place (place_of on_call m z u) s) (λ v. gives as_nothing (ends_above c.len-mark.result (assigned_to m u (place_in v) right)))) (sym (ap (λ z. z.first) c.span.ensures))

pub returns-in-Call-clause-means : goal.returns-in-Call-clause-means
returns-in-Call-clause-means c = λ on_call m s is. ap (λ x. gives as_nothing (done_simple on_call m (view_simple x)) s) c.in-Call.is ∙ call_begins on_call m (view_expr c.in-Call.e) s
