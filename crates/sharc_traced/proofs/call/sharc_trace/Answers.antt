use Rattle.sharc_traced.proofs.Calling.{replied, replied_in_part}
use Rattle.sharc_traced.proofs.call.sharc_trace.Goals as goal

pub returns-in-Ok-write_all-clause-replied : goal.returns-in-Ok-write_all-clause-replied
returns-in-Ok-write_all-clause-replied g c = λ h. replied _ _ _ _ c.in-Ok.reply _ c.in-Ok.ensures.reply c.deref.ensures.value c.in-Ok-write_all.ensures.all

pub returns-in-Ok-write_all-clause-why : goal.returns-in-Ok-write_all-clause-why
returns-in-Ok-write_all-clause-why g c = λ h. c.in-Ok.ensures.written

pub returns-in-Ok-clause-cut_short : goal.returns-in-Ok-clause-cut_short
returns-in-Ok-clause-cut_short g c = λ h.
    let failed = c.in-Err-write_all in
    replied_in_part _ _ _ _ c.in-Ok.reply _ failed.field-0.written c.in-Ok.ensures.reply c.deref.ensures.value failed.ensures.short failed.ensures.part
