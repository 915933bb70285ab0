use Rattle.sharc_report.proofs.{Imports.{◌++◌, ap, ◌∙◌, beside, check_text, refusal}, TextLemmas.one_beside}
use Rattle.sharc_report.proofs.refused.check_text.Goals as goal

pub loop-error-preserved : goal.loop-error-preserved
loop-error-preserved c =
    let r = c.args.program.now.typed in
    let e = c.error-item.result in
    let old = c.loop-error.text.items in
    let left = c.loop-error.left.now in
    one_beside r c.as_slice-error-items.result.now c.args.errors.now c.loop-error.error-index e left old c.put_refusal.new.text.items c.behind_first-left.result.now (check_text r c.args.errors.now c.args.casts.now)
    c.as_slice-error-items.ensures c.loop-error-test.true c.error-item.is
    (c.in_ok-put_refusal.ensures ∙ ap (λ t. old ++ refusal t e (beside left)) c.typed.ensures) c.behind_first-left.ensures
    c.loop-error.invariant
