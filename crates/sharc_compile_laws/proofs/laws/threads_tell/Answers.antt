use Rattle.sharc_compile_laws.proofs.Telling.{tell}
use Rattle.sharc_compile_laws.proofs.laws.threads_tell.Goals as goal

pub returns : goal.returns
returns c = tell c.run_law.ensures
