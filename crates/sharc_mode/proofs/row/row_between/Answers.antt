use Rattle.sharc_mode.proofs.RowLemmas.{within}
use Rattle.sharc_mode.proofs.row.row_between.Goals as goal

pub row_of_entity-requires : goal.row_of_entity-requires
row_of_entity-requires c = within c.args.typed.now c.args.token c.args.last c.in-Some.numbered.now c.in-Some.ensures
