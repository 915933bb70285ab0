use Rattle.sharc_check.proofs.{Imports.{◌≡◌, ◌+◌, ◌<◌, ◌≤◌, length, false, ◌&&◌, ap, sym, ◌∙◌, arith, first_fails, second_fails, positions_of, is_private_mode}, LevelLemmas.{next_level, found_level}, types.holds_private.Goals.{else-above-via-then-above+else-private, else-above-via-else-above}}
use Rattle.sharc_check.proofs.types.holds_private.Goals as goal

pub returns-then-private : goal.returns-then-private
returns-then-private c =
    let n = c.args.numbered.now in
    let whole = c.position_count-all.ensures.whole.modes in
    let below : c.loop-i.i < positions_of n.entity = omega (arith, c.loop-i-test.true, c.positions-i-end.ensures) in
    let ends : n.first + positions_of n.entity ≤ length c.args.program.now.modes = omega (arith, c.requires, whole) in
    sym (found_level c.args.program.now n c.loop-i.i c.loop-i.above c.is_private_mode-private.result below ends (c.is_private_mode-private.ensures ∙ ap is_private_mode c.mode.ensures) c.if-above.true c.if-private.true)
    ∙ c.loop-i.invariant

pub loop-i-preserved : goal.loop-i-preserved
loop-i-preserved c =
    let n = c.args.numbered.now in
    let whole = c.position_count-all.ensures.whole.modes in
    let above = c.loop-i.above in
    let private = c.is_private_mode-private.result in
    let below : c.loop-i.i < positions_of n.entity = omega (arith, c.loop-i-test.true, c.positions-i-end.ensures) in
    let ends : n.first + positions_of n.entity ≤ length c.args.program.now.modes = omega (arith, c.requires, whole) in
    let none : (above && private) ≡ false =
    elim c.else-above.branch [
      | else-above-via-then-above+else-private w ↦ second_fails above private w.if-private.false
      | else-above-via-else-above w ↦ first_fails above private w.if-above.false
    ] in
    next_level c.args.program.now n c.loop-i.i above private below ends (c.is_private_mode-private.ensures ∙ ap is_private_mode c.mode.ensures) none ∙ c.loop-i.invariant
