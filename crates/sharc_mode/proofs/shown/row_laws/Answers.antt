use Rattle.sharc_mode.proofs.ShownLemmas.{first_and_rest, none_of_row, rest_of_row, deeper_ends}
use Rattle.sharc_mode.proofs.shown.row_laws.Goals as goal

pub returns : goal.returns
returns c = record { begins = first_and_rest; empty = none_of_row; drops = rest_of_row; ends = deeper_ends }
