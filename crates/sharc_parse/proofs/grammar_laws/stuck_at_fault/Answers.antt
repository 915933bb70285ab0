use Rattle.sharc_parse.proofs.Readings.{wrong_at}
use Rattle.sharc_parse.proofs.grammar_laws.stuck_at_fault.Goals as goal

pub returns : goal.returns
returns c = wrong_at
