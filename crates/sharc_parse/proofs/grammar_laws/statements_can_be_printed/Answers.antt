use Rattle.sharc_parse.proofs.Marks.{statement_printable}
use Rattle.sharc_parse.proofs.grammar_laws.statements_can_be_printed.Goals as goal

pub returns : goal.returns
returns c = statement_printable
