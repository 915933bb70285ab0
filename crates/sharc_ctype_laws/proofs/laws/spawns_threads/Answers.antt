use Rattle.sharc_ctype_laws.proofs.TypedLaws as laws
use Rattle.sharc_ctype_laws.proofs.laws.spawns_threads.Goals as goal

pub returns : goal.returns
returns c = laws.spawns_threads
