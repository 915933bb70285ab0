use Rattle.std.proofs.{Common.arith, lemmas.List.take_rest}
use Rattle.sharc_io.proofs.writing.write_all.Goals as goal
use Rattle.sharc_lemmas.proofs.Lists.{appends_front_more}

pub loop-written-preserved : goal.loop-written-preserved
loop-written-preserved g c =
    let taken = rw take_rest at c.in-Ok.ensures.bytes in
    record {
      in_bytes = omega (arith, c.in-Ok.ensures.bound);
      out = appends_front_more _ _ _ c.args.bytes.now c.loop-written.written c.in-Ok.count c.loop-written.invariant.out taken;
      faults = omega (arith, c.in-Ok.ensures.cause.later);
      stalls = omega (arith, c.in-Ok.ensures.stall.later);
    }
