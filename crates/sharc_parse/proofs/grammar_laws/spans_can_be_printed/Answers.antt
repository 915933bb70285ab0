use Rattle.sharc_parse.proofs.Marks.{printable}
use Rattle.sharc_parse.proofs.grammar_laws.spans_can_be_printed.Goals as goal

pub returns : goal.returns
returns c = printable
