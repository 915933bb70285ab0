use Rattle.sharc_parse.proofs.Readings.{same_height}
use Rattle.sharc_parse.proofs.grammar_laws.height_is_of_tree.Goals as goal

pub returns : goal.returns
returns c = same_height
