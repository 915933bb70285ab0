use Rattle.sharc_rounds.proofs.Going.{goes_on, next_length}
use Rattle.sharc_rounds.proofs.laws.round_laws.Goals as goal

pub returns : goal.returns
returns c = record { goes_on = goes_on c.run_laws.ensures c.standing_laws.ensures c.table_laws.ensures; length_stays = next_length c.history_laws.ensures }
