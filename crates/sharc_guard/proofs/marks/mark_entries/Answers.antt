use Rattle.sharc_guard.proofs.{Imports.{take, get_or, subst, sym, take_more, no_function}, Targets.{AreEntered, none_entered, more_entered}}
use Rattle.sharc_guard.proofs.marks.mark_entries.Goals as goal

pub loop-function-init : goal.loop-function-init
loop-function-init c = none_entered c.args.targets.now

pub loop-function-preserved : goal.loop-function-preserved
loop-function-preserved c =
    let fs = c.args.functions.now in
    let i = c.loop-function.function-index in
    let f = get_or fs i no_function in
    subst (AreEntered c.args.targets.now c.mark.new.targets) (sym (take_more fs i no_function c.loop-function-test.true))
    (more_entered c.args.targets.now c.loop-function.targets c.mark.new.targets (take i fs) f c.loop-function.invariant (record { count = c.mark.ensures.count; are = c.mark.ensures.are }))
