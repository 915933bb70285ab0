use Rattle.sharc_top.proofs.{Imports.{◌∙◌, ap, IfOk-weaker, refusal_line}, Judging.{source_faulty, source_program}}
use Rattle.sharc_top.proofs.audited.source_judged.Goals as goal

pub returns-in-Ok : goal.returns-in-Ok
returns-in-Ok c =
    let front = rw c.deref.ensures.value at c.in-Ok.ensures in
    IfOk-weaker c.judged_with.result _ _ (λ reply is. source_program c.args.file.now.source.items _ _ _ _ _ front.0 is) c.judged_with.ensures

pub returns-in-Err-Source : goal.returns-in-Err-Source
returns-in-Err-Source c =
    let told = rw c.in-Err-Source.field-0-is at c.in-Err-Source.ensures in
    let fault = rw c.deref.ensures.value at told in
    IfOk-weaker c.refusal.result _ _ (λ reply is. source_faulty c.args.file.now.source.items _ _ _ _ _ fault is.0 (is.1 ∙ ap refusal_line c.in-Err-Source.fault-is)) c.refusal.ensures
