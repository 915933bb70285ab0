use Rattle.sharc_parse.proofs.Marks.{expression_printable}
use Rattle.sharc_parse.proofs.grammar_laws.expressions_can_be_printed.Goals as goal

pub returns : goal.returns
returns c = expression_printable
