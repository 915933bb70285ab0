use Rattle.sharc_schedule.proofs.{Imports.{◌≢◌, get_or, arith}, Scanning.{lacks_next, line_at, line_to_end}}
use Rattle.sharc_schedule.proofs.read.line_end.Goals as goal

pub loop-end-preserved : goal.loop-end-preserved
loop-end-preserved c =
    let old = c.loop-end.invariant in
    let low = old.order in
    let other : get_or c.args.bytes.now c.loop-end.end 0 ≢ 10 = (λ e. omega arith) in record {
      order = omega arith;
      within = omega arith;
      line = lacks_next c.args.bytes.now c.args.start c.loop-end.end old.order (omega arith) other old.line;
    }

pub returns-else-bytes-end-ne10-clause-line : goal.returns-else-bytes-end-ne10-clause-line
returns-else-bytes-end-ne10-clause-line c =
    let old = c.loop-end.invariant in
    line_at c.args.bytes.now c.args.start c.loop-end.end old.order (omega arith) (omega arith) old.line

pub returns-after-loop-end-clause-line : goal.returns-after-loop-end-clause-line
returns-after-loop-end-clause-line c =
    let old = c.loop-end.invariant in
    line_to_end c.args.bytes.now c.args.start c.loop-end.end (omega arith) old.within (omega arith) old.line
