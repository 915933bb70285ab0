use Rattle.sharc_live.proofs.Imports.{◌≡◌, ◌++◌, ap, sym, ◌∙◌, OnOk, subst, view_call, view_expr, view_arguments, listing, flow, flow_all}
use Rattle.sharc_live.proofs.expression.+expression.Goals as goal

pub expression-returns-in-Call : goal.expression-returns-in-Call
expression-returns-in-Call t c =
    let r = c.args.typed.now in
    let same : listing (flow_all r (view_arguments c.as_slice.result.now)) ≡ listing (flow r (view_expr c.args.expr.now)) =
    ap (λ l. listing (flow_all r (view_arguments l))) c.as_slice.ensures.value ∙ ap (λ e. listing (flow r e)) (sym (view_call c.args.expr.now c.in-Call.field-0 c.in-Call.field-1 c.in-Call.all c.in-Call.is)) in
    subst (λ l. OnOk c.arguments.result (c.arguments.new.steps.items ≡ c.args.steps.now.items ++ l)) same c.arguments.ensures
