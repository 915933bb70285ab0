use Rattle.sharc_check.proofs.{Imports.{◌≡◌, subst, OnOk, view_call, view_expr}, CallLemmas.call_said}
use Rattle.sharc_check.proofs.expr.+expr.Goals as goal

pub expression-returns-in-Call : goal.expression-returns-in-Call
expression-returns-in-Call t c =
    let w = c.in-Call in
    let said =
    call_said c.args.program.now (view_expr c.args.expr.now) w.span w.name w.list.items c.as_slice.result.now c.args.notes.now.items
    (view_call c.args.expr.now w.span w.name w.list w.is) c.as_slice.ensures.value
    in subst (λ l. OnOk c.called.result (c.called.new.notes.items ≡ l)) said c.called.ensures
