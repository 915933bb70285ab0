use Rattle.sharc_parse.proofs.WithinLaws.{first_wrong}
use Rattle.sharc_parse.proofs.grammar_laws.stuck_at_first_wrong.Goals as goal

pub returns : goal.returns
returns c = first_wrong
