use Rattle.sharc_ask.proofs.{Imports.{view_expr, ◌≡◌, length, arith, ap, ◌∙◌, Known}, Expressing.{lock_is, unlock_is, free_is}}
use Rattle.sharc_ask.proofs.expressions.on_place_plan.Goals as goal

pub returns-in-Lock-clause-means : goal.returns-in-Lock-clause-means
returns-in-Lock-clause-means c = λ on_call m s is.
    let many : length s.frame.temporaries ≡ c.len-mark.result = ap (λ (z : Known). length z.temporaries) is ∙ omega (arith, c.len-mark.ensures) in
    lock_is on_call m (view_expr c.args.expr.now) c.args.span (view_expr c.args.operand.now) c.args.word c.span.result.first c.len-mark.result c.requires.form c.in-Lock.is (ap (λ z. z.first) c.span.ensures) s many

pub returns-in-Unlock-clause-means : goal.returns-in-Unlock-clause-means
returns-in-Unlock-clause-means c = λ on_call m s is.
    let many : length s.frame.temporaries ≡ c.len-mark.result = ap (λ (z : Known). length z.temporaries) is ∙ omega (arith, c.len-mark.ensures) in
    unlock_is on_call m (view_expr c.args.expr.now) c.args.span (view_expr c.args.operand.now) c.args.word c.span.result.first c.len-mark.result c.requires.form c.in-Unlock.is (ap (λ z. z.first) c.span.ensures) s many

pub returns-in-Free-clause-means : goal.returns-in-Free-clause-means
returns-in-Free-clause-means c = λ on_call m s is.
    let many : length s.frame.temporaries ≡ c.len-mark.result = ap (λ (z : Known). length z.temporaries) is ∙ omega (arith, c.len-mark.ensures) in
    free_is on_call m (view_expr c.args.expr.now) c.args.span (view_expr c.args.operand.now) c.args.word c.span.result.first c.len-mark.result c.requires.form c.in-Free.is (ap (λ z. z.first) c.span.ensures) s many
