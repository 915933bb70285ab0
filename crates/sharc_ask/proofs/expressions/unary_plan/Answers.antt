use Rattle.sharc_ask.proofs.{Imports.{view_expr, Negate, Dereference, unary, ◌≡◌, length, arith, refl, ap, ◌∙◌, Known, eval, pointee_place}, Expressing.{unary_is, negate_begins, place_is}}
use Rattle.sharc_ask.proofs.expressions.unary_plan.Goals as goal

pub returns-in-Negate-clause-means : goal.returns-in-Negate-clause-means
returns-in-Negate-clause-means c = λ on_call m s is.
    let a = view_expr c.args.operand.now in
    unary_is on_call m (view_expr c.args.expr.now) c.args.span c.args.operator Negate a c.requires.form c.in-Negate.is s ∙ negate_begins m c.args.span a (eval on_call m a) s

pub returns-in-Dereference-clause-means : goal.returns-in-Dereference-clause-means
returns-in-Dereference-clause-means c = λ on_call m s is.
    let a = view_expr c.args.operand.now in
    let many : length s.frame.temporaries ≡ c.len-mark.result = ap (λ (z : Known). length z.temporaries) is ∙ omega (arith, c.len-mark.ensures) in
    place_is on_call m (view_expr c.args.expr.now) (unary c.args.span Dereference a) (pointee_place m.typed c.args.span.first a (eval on_call m a)) c.len-mark.result (c.requires.form ∙ ap (λ o. unary c.args.span o a) c.in-Dereference.is) s refl many
