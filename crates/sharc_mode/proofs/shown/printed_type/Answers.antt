use Rattle.sharc_mode.proofs.{Imports.{◌+◌, ◌<◌, length, ◌∙◌, arith, printed_top}, ShownLemmas.one_position}
use Rattle.sharc_mode.proofs.shown.printed_type.Goals as goal

pub loop-i-preserved : goal.loop-i-preserved
loop-i-preserved c =
    let m = c.args.program.now in
    let n = c.args.numbered.now in
    let whole = c.position_count-all.ensures.whole.modes in
    let below : n.first + c.loop-i.i < length m.modes = omega (arith, whole, c.requires, c.positions-i-end.ensures, c.loop-i-test.true) in
    one_position m.modes n.first c.loop-i.i (printed_top n.entity.role n.entity.written.ctype.levels) c.loop-i.levels.items c.push.new.self.items c.in_ok-mode.mode below
    (c.in_ok-mode.ensures ∙ c.mode.ensures) c.loop-i.invariant c.in_ok-push.ensures.items
