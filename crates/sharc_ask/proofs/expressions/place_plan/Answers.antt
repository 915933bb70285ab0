use Rattle.sharc_ask.proofs.{Imports.{view_expr, Expr, Expression, index, field, unary, ◌≡◌, ap, sym, ◌∙◌, subst, Named, eval, place_of, field_place, Plan, Rest, Task, gives, place, plan_means, inside}, Stating.same_begins}
use Rattle.sharc_ask.proofs.expressions.place_plan.Goals as goal

pub returns-in-Index-clause-means : goal.returns-in-Index-clause-means
returns-in-Index-clause-means c = λ on_call s.
    let m = c.args.program.now in
    let w = c.in-Index in
    let a = c.deref-in-Index.result in
    let i = c.deref-in-Index-2.result in
    let same : view_expr c.args.expr.now ≡ index w.field-0 (view_expr a.now) (view_expr i.now) =
    ap view_expr w.is ∙ ap (λ (z : Expr). index w.field-0 (view_expr z) (view_expr w.i.value)) (sym c.deref-in-Index.ensures) ∙ ap (λ (z : Expr). index w.field-0 (view_expr a.now) (view_expr z)) (sym c.deref-in-Index-2.ensures) in
    subst (λ (z : Expression). inside (gives place (place_of on_call m c.args.site z)) s ≡ plan_means on_call m (Plan.Goes (Task.Index c.args.site a i) Rest.Same) s) (sym same) (same_begins on_call m (Task.Index c.args.site a i) s)

pub returns-in-Field-clause-means : goal.returns-in-Field-clause-means
returns-in-Field-clause-means c = λ on_call s.
    let m = c.args.program.now in
    let w = c.in-Field in
    let a = c.deref-in-Field.result in
    let of_a = view_expr a.now in
    let same : view_expr c.args.expr.now ≡ field w.span of_a w.access w.name = ap view_expr w.is ∙ ap (λ (z : Expr). field w.span (view_expr z) w.access w.name) (sym c.deref-in-Field.ensures) in
    let plan = Plan.Goes (Task.Field c.args.site a w.access c.named-in-Field.result) Rest.Same in
    subst (λ (z : Expression). inside (gives place (place_of on_call m c.args.site z)) s ≡ plan_means on_call m plan s) (sym same)
    (ap (λ (n : Named). gives place (field_place m.typed c.args.site of_a w.access n (place_of on_call m c.args.site of_a) (eval on_call m of_a)) s) (sym c.named-in-Field.ensures) ∙ same_begins on_call m (Task.Field c.args.site a w.access c.named-in-Field.result) s)

pub returns-in-Unary-clause-means : goal.returns-in-Unary-clause-means
returns-in-Unary-clause-means c = λ on_call s.
    let m = c.args.program.now in
    let w = c.in-Unary in
    let same : view_expr c.args.expr.now ≡ unary w.field-0 w.operator (view_expr c.deref-in-Unary.result.now) = ap view_expr w.is ∙ ap (λ (z : Expr). unary w.field-0 w.operator (view_expr z)) (sym c.deref-in-Unary.ensures) in
    subst (λ (z : Expression). inside (gives place (place_of on_call m c.args.site z)) s ≡ plan_means on_call m c.unary_place_plan.result s) (sym same) (c.unary_place_plan.ensures.means on_call m s)
