use Rattle.sharc_reach.proofs.{Imports.{◌-◌, arith, base_marks}, NameLemmas.names_higher}
use Rattle.sharc_reach.proofs.names.type_names.Goals as goal

pub loop-above-preserved : goal.loop-above-preserved
loop-above-preserved c =
    let t = c.args.written.now in
    let levels = c.as_slice-levels.result.now in
    let above = c.loop-above.above in
    let within = c.loop-above.invariant.within in
    record {
      within = omega arith;
      added = names_higher c.args.function t.mode_first (base_marks t.ctype.base t.base.token) levels (above - 1) above c.index-levels-above-else-above-levels.result c.args.list.now.items c.loop-above.list.items c.level.new.list.items
          (omega arith) (omega arith) c.index-levels-above-else-above-levels.is c.loop-above.invariant.added c.in_ok-level.ensures;
    }
