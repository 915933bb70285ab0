use Rattle.sharc_parse.proofs.Marks.{names_apart}
use Rattle.sharc_parse.proofs.grammar_laws.names_have_tokens_of_their_own.Goals as goal

pub returns : goal.returns
returns c = names_apart
