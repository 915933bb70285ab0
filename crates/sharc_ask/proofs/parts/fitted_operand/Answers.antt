use Rattle.sharc_ask.proofs.{Imports.{◌≡◌, Err, ap, sym, ◌∙◌, subst, to_z-of_z, rules, view_expr, view_kind, fits, fitting, operand, give, view_state, Does}, Fitting.{fitted_goes, fitted_over}}
use Rattle.sharc_ask.proofs.parts.fitted_operand.Goals as goal

pub returns-clause-does : goal.returns-clause-does
returns-clause-does c =
    let same = to_z-of_z c.ranges.value in
    fitted_goes (view_state c.args.st.now) (view_state c.operand_value.new.st) c.args.program.now.typed (view_kind c.args.kind) (view_expr c.args.expr.now) c.args.value _ c.fits.result c.span.result.first c.in_ok-unless.field-0 c.operand_value.result
    (c.fits.ensures ∙ ap (fits (view_kind c.args.kind)) same) (ap (λ s. s.first) c.span.ensures) same c.in_ok-unless.ensures c.operand_value.ensures.does

pub returns-in_err-unless-clause-does : goal.returns-in_err-unless-clause-does
returns-in_err-unless-clause-does c =
    let kind = view_kind c.args.kind in
    let e = view_expr c.args.expr.now in
    let k = view_state c.args.st.now in
    let is : c.from_residual.result ≡ Err c.in_err-unless.field-0.0 = search rules in
    subst (λ r. Does k r k (operand c.args.program.now.typed e (fitting kind e (give c.args.value)))) (sym is)
    (fitted_over k c.args.program.now.typed kind e c.args.value c.fits.result c.span.result.first c.in_err-unless.field-0.0 (c.fits.ensures ∙ ap (fits kind) (to_z-of_z c.ranges.value)) (ap (λ s. s.first) c.span.ensures) c.in_err-unless.ensures)
