use Rattle.sharc_run.proofs.Telling.{told}
use Rattle.sharc_run.proofs.laws.outcome_is_told.Goals as goal

pub returns : goal.returns
returns c = told
