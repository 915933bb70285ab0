use Rattle.sharc_flat_laws.proofs.Tables as tables
use Rattle.sharc_flat_laws.proofs.laws.made_tables_fit.Goals as goal

pub returns : goal.returns
returns c = tables.fits c.within_limits.ensures c.meets_globals.ensures c.spawns_threads.ensures c.made_spawns.ensures
