use Rattle.sharc_audit.proofs.{Imports.{arith, MatchOption-at_none, MatchOption-at_some, text_lines}, Filing.{passed_bad, passed_next}}
use Rattle.sharc_audit.proofs.file.too_many.Goals as goal

pub returns-in-Ok-None : goal.returns-in-Ok-None
returns-in-Ok-None c = passed_bad (text_lines c.args.bytes.now) c.loop-rest.rest.now c.args.first c.loop-rest.n c.next_line.result.0.now c.next_line.result.1.now c.loop-rest.invariant.passed c.next_line.ensures (MatchOption-at_none _ _ c.in-Ok-None.field-0-is c.in-Ok-None.ensures)

pub loop-rest-preserved : goal.loop-rest-preserved
loop-rest-preserved c =
    let shorter = c.next_line.ensures.shorter in
    let before = c.loop-rest.invariant.room in
    record {
      passed = passed_next (text_lines c.args.bytes.now) c.loop-rest.rest.now c.args.first c.loop-rest.n c.next_line.result.0.now c.next_line.result.1.now c.in-Ok-Some.event c.loop-rest.invariant.passed c.next_line.ensures (MatchOption-at_some _ _ c.in-Ok-Some.event c.in-Ok-Some.field-0-is c.in-Ok-Some.ensures);
      room = omega (arith, shorter, before);
    }
