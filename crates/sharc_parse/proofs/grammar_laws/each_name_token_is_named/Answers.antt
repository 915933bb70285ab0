use Rattle.sharc_parse.proofs.Marks.{name_there}
use Rattle.sharc_parse.proofs.grammar_laws.each_name_token_is_named.Goals as goal

pub returns : goal.returns
returns c = name_there
