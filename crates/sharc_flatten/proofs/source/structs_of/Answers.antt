use Rattle.sharc_flatten.proofs.{Imports.{◌<◌, ◌+◌, ◌-◌, length, sym, arith, structs_in}, StructLemmas.{cells_more, layouts_more}}
use Rattle.sharc_flatten.proofs.source.structs_of.Goals as goal

pub loop-left-preserved : goal.loop-left-preserved
loop-left-preserved c =
    let all = structs_in c.args.typed.now.program.items in
    let left = c.loop-left.left in
    let some : 0 < left = omega arith in
    record {
      few = omega arith;
      cells = cells_more all left (left - 1 + 2) c.in-Some.definition.now c.loop-left.structs c.enter_struct.new.structs some (sym c.in-Some.ensures.definition) c.in_ok-enter_struct-in-Some.ensures c.loop-left.invariant.cells;
      layouts = layouts_more all left (length all + 2) c.in-Some.definition.now c.loop-left.structs c.enter_struct.new.structs some (sym c.in-Some.ensures.definition) c.in_ok-enter_struct-in-Some.ensures c.loop-left.invariant.layouts;
    }
