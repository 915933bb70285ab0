use Rattle.sharc_top.proofs.{Imports.{sym, subst, IfOk, IfOk-weaker, IsRefused, TellNamed, Judges, IsModeRefusal}, Judging.judges_refused}
use Rattle.sharc_top.proofs.audited.judged_with.Goals as goal

pub returns-in-Ok : goal.returns-in-Ok
returns-in-Ok c = subst (λ x. IfOk c.judged.result (λ reply. Judges x c.args.file.now.fuel c.args.file.now.events reply.status reply.text.items)) c.in-Ok.ensures.0 c.judged.ensures

pub mode_refusal-requires-clause-refused : goal.mode_refusal-requires-clause-refused
mode_refusal-requires-clause-refused c =
    let told = rw c.in-Err-Modes.field-0-is at c.in-Err-Modes.ensures in
    subst (λ x. IsRefused x c.in-Err-Modes.errors) (sym told.0) told.1

pub mode_refusal-requires-clause-named : goal.mode_refusal-requires-clause-named
mode_refusal-requires-clause-named c =
    let told = rw c.in-Err-Modes.field-0-is at c.in-Err-Modes.ensures in
    subst (λ x. TellNamed x c.in-Err-Modes.named) (sym told.0) told.2

pub returns-in-Err-Modes : goal.returns-in-Err-Modes
returns-in-Err-Modes c =
    let told = rw c.in-Err-Modes.field-0-is at c.in-Err-Modes.ensures in
    IfOk-weaker c.mode_refusal.result _ _ (λ reply is. judges_refused _ _ _ _ _ is.0 (subst (λ x. IsModeRefusal x reply.text.items) told.0 is.1)) c.mode_refusal.ensures
