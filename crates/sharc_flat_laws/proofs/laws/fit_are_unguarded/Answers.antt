use Rattle.sharc_flat_laws.proofs.Unguarded as unguarded
use Rattle.sharc_flat_laws.proofs.laws.fit_are_unguarded.Goals as goal

pub returns : goal.returns
returns c = unguarded.globals_unguarded
