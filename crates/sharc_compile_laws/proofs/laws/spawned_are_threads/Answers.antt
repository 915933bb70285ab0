use Rattle.sharc_compile_laws.proofs.Spawners.{spawners}
use Rattle.sharc_compile_laws.proofs.laws.spawned_are_threads.Goals as goal

pub returns : goal.returns
returns c = spawners c.made_spawns.ensures
