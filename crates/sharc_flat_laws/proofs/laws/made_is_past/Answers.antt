use Rattle.sharc_flat_laws.proofs.Tables as tables
use Rattle.sharc_flat_laws.proofs.laws.made_is_past.Goals as goal

pub returns : goal.returns
returns c = tables.made_is_past
