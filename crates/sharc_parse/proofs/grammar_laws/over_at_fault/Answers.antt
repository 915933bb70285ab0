use Rattle.sharc_parse.proofs.Readings.{excess_at}
use Rattle.sharc_parse.proofs.grammar_laws.over_at_fault.Goals as goal

pub returns : goal.returns
returns c = excess_at
