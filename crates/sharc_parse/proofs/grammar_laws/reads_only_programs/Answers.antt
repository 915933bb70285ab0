use Rattle.sharc_parse.proofs.Whole.{found}
use Rattle.sharc_parse.proofs.grammar_laws.reads_only_programs.Goals as goal

pub returns : goal.returns
returns c = found
