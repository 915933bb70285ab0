use Rattle.sharc_parse.proofs.Readings.{same_function}
use Rattle.sharc_parse.proofs.grammar_laws.nesting_is_of_tree.Goals as goal

pub returns : goal.returns
returns c = same_function
