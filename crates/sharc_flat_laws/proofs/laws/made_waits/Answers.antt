use Rattle.sharc_flat_laws.proofs.Tables as tables
use Rattle.sharc_flat_laws.proofs.laws.made_waits.Goals as goal

pub returns : goal.returns
returns c = tables.made_waits
