use Rattle.sharc_report.proofs.{Imports.{◌++◌, ap, ◌∙◌, flat_map, warning_line}, TextLemmas.one_more}
use Rattle.sharc_report.proofs.accepted.accepted_text.Goals as goal

pub loop-warning-preserved : goal.loop-warning-preserved
loop-warning-preserved c =
    let f = warning_line c.args.program.now.typed in
    let w = c.warning-item.result in
    let old = c.loop-warning.text.items in
    one_more f c.as_slice-warning-items.result.now c.args.warnings.now c.loop-warning.warning-index w old c.put_warning.new.text.items (flat_map f c.args.warnings.now)
    c.as_slice-warning-items.ensures c.loop-warning-test.true c.warning-item.is (c.in_ok-put_warning.ensures ∙ ap (λ r. old ++ warning_line r w) c.typed.ensures) c.loop-warning.invariant
