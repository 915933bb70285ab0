use Rattle.sharc_parse.proofs.Whole.{first_fault}
use Rattle.sharc_parse.proofs.grammar_laws.stops_at_first_fault.Goals as goal

pub returns : goal.returns
returns c = first_fault
