use Rattle.sharc_ask.proofs.Imports.{◌≡◌, ap, ◌∙◌, subst, to_z-of_z, value_act, performs, view_state, Does}
use Rattle.sharc_ask.proofs.parts.value_called.Goals as goal

pub returns-clause-does : goal.returns-clause-does
returns-clause-does c =
    let same : c.value_act.result ≡ value_act c.args.word c.args.value = c.value_act.ensures ∙ ap (value_act c.args.word) (to_z-of_z c.ranges.value) in
    c.zero_behind.ensures.does (view_state c.args.st.now) (view_state c.perform.new.st) (performs c.args.site (value_act c.args.word c.args.value)) (subst (λ a. Does (view_state c.args.st.now) c.perform.result (view_state c.perform.new.st) (performs c.args.site a)) same c.perform.ensures.does)
