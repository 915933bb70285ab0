use Rattle.sharc_ask.proofs.{Imports.{view_expr, ◌≡◌, length, arith, ap, ◌∙◌, Known}, Expressing.spawn_is}
use Rattle.sharc_ask.proofs.expressions.spawn_plan.Goals as goal

pub returns-clause-means : goal.returns-clause-means
returns-clause-means c = λ on_call s is.
    let many : length s.frame.temporaries ≡ c.len-mark.result =
    ap (λ (z : Known). length z.temporaries) is ∙ omega (arith, c.len-mark.ensures) in
    spawn_is on_call c.args.program.now (view_expr c.args.expr.now) c.args.span c.args.name.now
    (view_expr c.args.argument.now) c.named.result c.len-mark.result c.requires.form c.named.ensures s many
