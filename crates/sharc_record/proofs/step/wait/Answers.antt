use Rattle.sharc_record.proofs.Imports.{◌∙◌}
use Rattle.sharc_record.proofs.step.wait.Goals as goal

pub returns-then-look-clause-turn : goal.returns-then-look-clause-turn
returns-then-look-clause-turn g c = λ part is. c.look.ensures.turn c.if-look.true part (c.loop.invariant.same ∙ is)
