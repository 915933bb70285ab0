use Rattle.sharc_top.proofs.{Imports.{sym, subst, IfOk, IfOk-weaker, IsRefused, TellNamed, IsModeRefusal, Checks}, Verdicts.checks_refused}
use Rattle.sharc_top.proofs.verdict.checked.Goals as goal

pub returns-in-Ok : goal.returns-in-Ok
returns-in-Ok c = subst (λ x. IfOk c.acceptance-reply.result (λ reply. Checks x reply.status reply.text.items)) c.in-Ok.ensures.0 c.acceptance-reply.ensures

pub mode_refusal-reply-requires-clause-refused : goal.mode_refusal-reply-requires-clause-refused
mode_refusal-reply-requires-clause-refused c =
    let told = rw c.in-Err-Modes.field-0-is at c.in-Err-Modes.ensures in
    subst (λ x. IsRefused x c.in-Err-Modes.errors) (sym told.0) told.1

pub mode_refusal-reply-requires-clause-named : goal.mode_refusal-reply-requires-clause-named
mode_refusal-reply-requires-clause-named c =
    let told = rw c.in-Err-Modes.field-0-is at c.in-Err-Modes.ensures in
    subst (λ x. TellNamed x c.in-Err-Modes.named) (sym told.0) told.2

pub returns-in-Err-Modes : goal.returns-in-Err-Modes
returns-in-Err-Modes c =
    let told = rw c.in-Err-Modes.field-0-is at c.in-Err-Modes.ensures in
    IfOk-weaker c.mode_refusal-reply.result _ _ (λ reply is. checks_refused _ _ _ is.0 (subst (λ x. IsModeRefusal x reply.text.items) told.0 is.1)) c.mode_refusal-reply.ensures
