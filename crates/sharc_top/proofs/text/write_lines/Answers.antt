use Rattle.sharc_top.proofs.{Imports.arith, Lines.{appends_line, appends_part}}
use Rattle.sharc_top.proofs.text.write_lines.Goals as goal

pub returns-in-Err-clause-part : goal.returns-in-Err-clause-part
returns-in-Err-clause-part g c =
    appends_part _ _ _ _ c.loop-from.from c.line_end-end.result _ (omega arith) c.in-Err.ensures.short c.loop-from.invariant.written c.in-Err.ensures.part

pub loop-from-preserved : goal.loop-from-preserved
loop-from-preserved g c =
    let kept = c.loop-from.invariant in
    record {
      within = omega arith;
      written = appends_line _ _ _ _ c.loop-from.from c.line_end-end.result (omega arith) kept.written c.in_default.ensures.all;
      faults = omega (arith, kept.faults, c.in_default.ensures.faults);
      stalls = omega (arith, kept.stalls, c.in_default.ensures.stalls);
    }
