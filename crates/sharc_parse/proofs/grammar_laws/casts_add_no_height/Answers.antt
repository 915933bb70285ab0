use Rattle.sharc_parse.proofs.TreeLow.{cast_no_higher}
use Rattle.sharc_parse.proofs.grammar_laws.casts_add_no_height.Goals as goal

pub returns : goal.returns
returns c = cast_no_higher
