use Rattle.sharc_ask.proofs.{Imports.{◌≡◌, Err, ap, sym, ◌∙◌, subst, to_z-of_z, rules, view_expr, view_kind, fits, returned, view_state, DoesAs, returned_with, view_flow, RustFlow as Flow}, Fitting.{returned_goes, returned_over}}
use Rattle.sharc_ask.proofs.parts.returned.Goals as goal

pub returns : goal.returns
returns c =
    let same = to_z-of_z c.ranges.value in
    returned_goes (view_state c.args.st.now) (view_kind c.args.kind) c.args.site (view_expr c.args.expr.now) c.args.value c.fits.result c.span.result.first c.in_ok-unless.field-0 (Flow.Returned c.args.site _)
    (c.fits.ensures ∙ ap (fits (view_kind c.args.kind)) same) (ap (λ s. s.first) c.span.ensures) (ap (returned c.args.site) same) c.in_ok-unless.ensures

pub returns-in_err-unless : goal.returns-in_err-unless
returns-in_err-unless c =
    let kind = view_kind c.args.kind in
    let k = view_state c.args.st.now in
    let is : c.from_residual.result ≡ Err c.in_err-unless.field-0.0 = search rules in
    subst (λ r. DoesAs view_flow k r k (returned_with kind c.args.site (view_expr c.args.expr.now) c.args.value)) (sym is)
    (returned_over k kind c.args.site (view_expr c.args.expr.now) c.args.value c.fits.result c.span.result.first c.in_err-unless.field-0.0 (c.fits.ensures ∙ ap (fits kind) (to_z-of_z c.ranges.value)) (ap (λ s. s.first) c.span.ensures) c.in_err-unless.ensures)
