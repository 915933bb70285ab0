use Rattle.sharc_parse.proofs.WithinLaws.{found_within}
use Rattle.sharc_parse.proofs.grammar_laws.reads_only_within.Goals as goal

pub returns : goal.returns
returns c = found_within
