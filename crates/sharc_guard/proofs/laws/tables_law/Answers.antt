use Rattle.sharc_guard.proofs.Tabling.{tables}
use Rattle.sharc_guard.proofs.laws.tables_law.Goals as goal

pub returns : goal.returns
returns c = tables
