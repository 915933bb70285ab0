use Rattle.sharc_parse.proofs.WithinLaws.{first_excess}
use Rattle.sharc_parse.proofs.grammar_laws.over_at_first_excess.Goals as goal

pub returns : goal.returns
returns c = first_excess
