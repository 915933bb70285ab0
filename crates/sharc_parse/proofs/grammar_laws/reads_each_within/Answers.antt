use Rattle.sharc_parse.proofs.WithinLaws.{only_within}
use Rattle.sharc_parse.proofs.grammar_laws.reads_each_within.Goals as goal

pub returns : goal.returns
returns c = only_within
