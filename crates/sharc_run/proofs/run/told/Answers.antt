use Rattle.sharc_run.proofs.{Imports.refl, Ending.ended}
use Rattle.sharc_run.proofs.run.told.Goals as goal

pub returns-clause-ends : goal.returns-clause-ends
returns-clause-ends c = λ s limit turns fits is.
    ended c.args.code.now s limit turns c.args.threads.now fits.threads is.started is.over c.args.end is.end_is _ _ is.words_are refl _ c.in_ok-text.ensures c.outcome_of.ensures
