use Rattle.sharc_flat_laws.proofs.Tables as tables
use Rattle.sharc_flat_laws.proofs.laws.made_spawns.Goals as goal

pub returns : goal.returns
returns c = tables.made_spawns c.spawns_name_functions.ensures
