use Rattle.sharc_parse.proofs.TreeLow.{low}
use Rattle.sharc_parse.proofs.grammar_laws.programs_are_low.Goals as goal

pub returns : goal.returns
returns c = low
