use Rattle.sharc_ask.proofs.Imports.{◌≡◌, sym, subst, to_z, of_z, w64, rules, view_expr, view_state, number_in, view_value, Plans, value_means, number_means, rest_means}
use Rattle.sharc_ask.proofs.rests.resume.Goals as goal

pub returns-in-Value-clause-means : goal.returns-in-Value-clause-means
returns-in-Value-clause-means c = λ on_call.
    let m = c.args.program.now in
    let v = view_value c.args.value in
    let w = c.in-Value in
    let same : to_z w64 (of_z w64 c.number_in.result) ≡ number_in v = search rules in
    subst (λ z. Plans on_call m (view_state c.args.st.now) c.with_value.result (view_state c.with_value.new.st) (rest_means on_call m z v)) (sym w.is) (subst (λ z. Plans on_call m (view_state c.args.st.now) c.with_value.result (view_state c.with_value.new.st) (value_means on_call m (view_expr w.e.now) w.rest z)) same (c.with_value.ensures.means on_call))

pub returns-in-Number-clause-means : goal.returns-in-Number-clause-means
returns-in-Number-clause-means c = λ on_call.
    let m = c.args.program.now in
    let v = view_value c.args.value in
    let same : to_z w64 (of_z w64 c.number_in-in-Number.result) ≡ number_in v = search rules in
    subst (λ z. Plans on_call m (view_state c.args.st.now) c.with_number.result (view_state c.with_number.new.st) (rest_means on_call m z v)) (sym c.in-Number.is) (subst (λ z. Plans on_call m (view_state c.args.st.now) c.with_number.result (view_state c.with_number.new.st) (number_means m c.in-Number.rest z)) same (c.with_number.ensures.means on_call))
