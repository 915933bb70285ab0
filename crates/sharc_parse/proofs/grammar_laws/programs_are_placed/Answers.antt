use Rattle.sharc_parse.proofs.Placing.{placed}
use Rattle.sharc_parse.proofs.grammar_laws.programs_are_placed.Goals as goal

pub returns : goal.returns
returns c = placed
