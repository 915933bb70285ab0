use Rattle.sharc_ask.proofs.{Imports.{◌≡◌, Err, sym, ap, subst, to_z, of_z, w64, rules, ℤ, view_expr, ToFree, span_of, cell_at, Run, ◌>>=◌, taken_from, view_state, view_place, Does, gives, number, ends_above, Plans, free_unless_null}, Outs.{number_then, number_over}}
use Rattle.sharc_ask.proofs.rests.freed.Goals as goal

pub returns-clause-means : goal.returns-clause-means
returns-clause-means c = λ on_call.
    let m = c.args.program.now in
    let site = (span_of (view_expr c.args.expr.now)).first in
    let k1 = view_state c.taken.new.st in
    let first = ends_above c.args.mark (taken_from m.typed c.args.span.first site (cell_at m (view_expr c.args.expr.now)) ToFree (view_place c.args.place)) in
    let rest : ℤ → Run ℤ = λ x. free_unless_null site x in
    let k2 = view_state c.freed_with.new.st in
    let same : to_z w64 (of_z w64 c.in_ok-value.value) ≡ c.in_ok-value.value = search rules in
    number_then on_call m (view_state c.args.st.now) k1 k2 c.in_ok-value.value c.done_number.result first rest c.in_ok-value.ensures.does (c.done_number.ensures.means on_call m k1 k2 (rest c.in_ok-value.value) (subst (λ z. Does k1 c.freed_with.result k2 (free_unless_null z c.in_ok-value.value)) (ap (λ z. z.first) c.span.ensures) (subst (λ z. Does k1 c.freed_with.result k2 (free_unless_null c.span.result.first z)) same c.freed_with.ensures.does)))

pub returns-in_err-value-clause-means : goal.returns-in_err-value-clause-means
returns-in_err-value-clause-means c = λ on_call.
    let m = c.args.program.now in
    let site = (span_of (view_expr c.args.expr.now)).first in
    let first = ends_above c.args.mark (taken_from m.typed c.args.span.first site (cell_at m (view_expr c.args.expr.now)) ToFree (view_place c.args.place)) in
    let rest : ℤ → Run ℤ = λ x. free_unless_null site x in
    let is : c.from_residual.result ≡ Err c.in_err-value.field-0.0 = search rules in
    subst (λ r. Plans on_call m (view_state c.args.st.now) r (view_state c.taken.new.st) (gives number (first >>= rest))) (sym is) (number_over on_call m (view_state c.args.st.now) (view_state c.taken.new.st) c.in_err-value.field-0.0 first rest c.in_err-value.ensures.does)
