use Rattle.sharc_compile_laws.proofs.Telling.{told_are_own}
use Rattle.sharc_compile_laws.proofs.laws.own_are_told.Goals as goal

pub returns : goal.returns
returns c = told_are_own
