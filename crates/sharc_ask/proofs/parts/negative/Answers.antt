use Rattle.sharc_ask.proofs.Imports.{◌≡◌, ap, ◌∙◌, subst, to_z, of_z, w64, to_z-of_z, view_expr, promoted, kind_at, bits_of, negated, resulting, view_state, Does, value_bits}
use Rattle.sharc_ask.proofs.parts.negative.Goals as goal

pub returns : goal.returns
returns c =
    let x = c.args.value in
    let bits = bits_of (promoted (kind_at c.args.program.now.typed (view_expr c.args.expr.now))) in
    let width : value_bits c.width_of-width.result ≡ bits =
    c.width_of-width.ensures ∙ ap bits_of (c.promoted.ensures ∙ ap promoted c.kind_of.ensures) in
    let same : c.negated.result ≡ negated bits x =
    c.negated.ensures ∙ ap (λ b. negated b (to_z w64 (of_z w64 x))) width ∙ ap (negated bits) (to_z-of_z c.ranges.value) in
    subst (λ z. Does (view_state c.args.st.now) c.resulting.result (view_state c.args.st.now) (resulting c.args.site z)) same c.resulting.ensures
