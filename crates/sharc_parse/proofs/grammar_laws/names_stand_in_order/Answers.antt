use Rattle.sharc_parse.proofs.Marks.{names_stand}
use Rattle.sharc_parse.proofs.grammar_laws.names_stand_in_order.Goals as goal

pub returns : goal.returns
returns c = names_stand
