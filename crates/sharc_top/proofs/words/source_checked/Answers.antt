use Rattle.sharc_top.proofs.{Imports.{◌∙◌, ap, IfOk-weaker, refusal_line, SourceTask}, Verdicts.{answers_faulty, answers_program}}
use Rattle.sharc_top.proofs.words.source_checked.Goals as goal

pub returns-in-Ok : goal.returns-in-Ok
returns-in-Ok c = IfOk-weaker c.checked.result _ _ (λ reply is. answers_program SourceTask.Check _ _ _ _ c.in-Ok.ensures.0 is) c.checked.ensures

pub returns-in-Err-Source : goal.returns-in-Err-Source
returns-in-Err-Source c =
    let told = rw c.in-Err-Source.field-0-is at c.in-Err-Source.ensures in
    IfOk-weaker c.refusal.result _ _ (λ reply is. answers_faulty _ _ _ _ _ told is.0 (is.1 ∙ ap refusal_line c.in-Err-Source.fault-is)) c.refusal.ensures
