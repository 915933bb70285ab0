use Rattle.sharc_parse.proofs.Whole.{only}
use Rattle.sharc_parse.proofs.grammar_laws.reads_each_program.Goals as goal

pub returns : goal.returns
returns c = only
