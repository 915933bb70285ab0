use Rattle.sharc_schedule.proofs.{Imports.{◌≡◌, ◌<◌, length, sym, ◌∙◌, arith, eqb-true, lines_in}, Scanning.{source_goes_on, source_ends, nothing_read}}
use Rattle.sharc_schedule.proofs.read.read_file.Goals as goal

pub returns-then-is_empty-clause-err : goal.returns-then-is_empty-clause-err
returns-then-is_empty-clause-err c =
    let none : length c.args.bytes.now ≡ 0 = eqb-true (length c.args.bytes.now) 0 (sym c.if-is_empty.ensures) in
    c.file_laws.ensures.faults (lines_in c.args.bytes.now) 1 (nothing_read c.args.bytes.now none)

pub loop-end-preserved : goal.loop-end-preserved
loop-end-preserved c =
    let old = c.loop-end.invariant in
    let next = c.line_end-next.ensures in
    let low = next.order in
    let line = old.line in
    let more : c.loop-end.end < length c.args.bytes.now = omega arith in
    let newline = old.newline more in record {
      within = next.within;
      line = omega arith;
      newline = next.newline;
      read = old.read ∙ source_goes_on c.args.bytes.now c.loop-end.end c.line_end-next.result c.loop-end.line (omega arith) next.within newline next.line (c.begins_schedule.ensures.other c.if-begins_schedule.false);
    }

pub returns-clause-err : goal.returns-clause-err
returns-clause-err c =
    c.file_laws.ensures.faults (lines_in c.args.bytes.now) c.loop-end.line (c.loop-end.invariant.read ∙ source_ends c.args.bytes.now c.loop-end.end c.loop-end.line (omega arith))
