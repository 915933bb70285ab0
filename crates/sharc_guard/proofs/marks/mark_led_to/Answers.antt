use Rattle.sharc_guard.proofs.{Imports.{slice_get-get_or, get_or, Op}, Targets.{none_led, more_led}}
use Rattle.sharc_guard.proofs.marks.mark_led_to.Goals as goal

pub loop-n-init : goal.loop-n-init
loop-n-init c = none_led c.args.targets.now c.args.lines.now

pub loop-n-preserved : goal.loop-n-preserved
loop-n-preserved c =
    let n = c.loop-n.n in
    let lines = c.args.lines.now in
    let o = get_or lines n Op.Enter in
    more_led c.args.targets.now c.loop-n.targets c.mark.new.targets lines n o c.led_to.result (slice_get-get_or lines n Op.Enter c.loop-n-test.true) c.led_to.ensures c.loop-n.invariant
    (record { count = c.mark.ensures.count; are = c.mark.ensures.are })
