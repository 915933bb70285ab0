use Rattle.sharc_infer.proofs.Imports.{◌≡◌, ◌++◌, ap, sym, ◌∙◌, OnOk, subst, view_call, expressions, in_arguments, view_expr, view_arguments, casts_in}
use Rattle.sharc_infer.proofs.casts.+expression.Goals as goal

pub expression-returns-in-Call : goal.expression-returns-in-Call
expression-returns-in-Call t c =
    let r = c.args.typed.now in
    let same : casts_in r (in_arguments (view_arguments c.as_slice.result.now)) ≡ casts_in r (expressions (view_expr c.args.expr.now)) =
    ap (λ l. casts_in r (in_arguments (view_arguments l))) c.as_slice.ensures.value ∙ ap (λ e. casts_in r (expressions e)) (sym (view_call c.args.expr.now c.in-Call.field-0 c.in-Call.field-1 c.in-Call.all c.in-Call.is)) in
    subst (λ l. OnOk c.arguments.result (c.arguments.new.links.items ≡ c.args.links.now.items ++ l)) same c.arguments.ensures
