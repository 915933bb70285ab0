use Rattle.sharc_ask.proofs.{Imports.{view_expr, ◌≡◌, length, arith, ap, ◌∙◌, Known}, Expressing.cast_is}
use Rattle.sharc_ask.proofs.expressions.cast_plan.Goals as goal

pub returns-clause-means : goal.returns-clause-means
returns-clause-means c = λ on_call m s is.
    let many : length s.frame.temporaries ≡ c.len-mark.result =
    ap (λ (z : Known). length z.temporaries) is ∙ omega (arith, c.len-mark.ensures) in
    cast_is on_call m (view_expr c.args.expr.now) c.args.span c.requires.form.0 (view_expr c.args.source.now)
    c.span.result.first c.len-mark.result c.requires.form.1 (ap (λ z. z.first) c.span.ensures) s many
