use Rattle.sharc_suggest.proofs.{Imports.{◌≡◌, ◌++◌, subst, OnOk, view_call, view_expr, told}, CallLemmas.call_suggested}
use Rattle.sharc_suggest.proofs.expr.+expr.Goals as goal

pub expression-returns-in-Call : goal.expression-returns-in-Call
expression-returns-in-Call t c =
    let same =
    call_suggested c.args.known.moded.now (told c.args.known.named.now) c.args.scope.now (view_expr c.args.expr.now) c.in-Call.field-0 c.in-Call.name c.in-Call.list.items c.as_slice.result.now
    (view_call c.args.expr.now c.in-Call.field-0 c.in-Call.name c.in-Call.list c.in-Call.is) c.as_slice.ensures.value
    in subst (λ l. OnOk c.arguments.result (c.arguments.new.casts.items ≡ c.args.casts.now.items ++ l)) same c.arguments.ensures
