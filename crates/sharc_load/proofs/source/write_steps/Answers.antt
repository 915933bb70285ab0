use Rattle.sharc_load.proofs.{Imports.{◌+◌, refl, arith, step_line}, Text.{next_line, no_line, step_line_is}}
use Rattle.sharc_load.proofs.source.write_steps.Goals as goal

pub loop-i-init : goal.loop-i-init
loop-i-init g c = no_line step_line 0 _

pub loop-i-preserved : goal.loop-i-preserved
loop-i-preserved g c =
    next_line step_line 0 c.loop-i.i-counter (c.loop-i.i-counter + 1) c.loop-i.i-counter _ _ _ _ (omega arith) refl c.loop-i.invariant c.in_ok-writeln.ensures.bytes (step_line_is c.loop-i.i-counter)
