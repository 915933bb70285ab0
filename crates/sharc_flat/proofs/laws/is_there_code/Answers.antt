use Rattle.sharc_flat.proofs.{Imports.{refl, flattened}, Flattening.is_flattened}
use Rattle.sharc_flat.proofs.laws.is_there_code.Goals as goal

pub returns : goal.returns
returns c = λ m globals. (flattened m globals, is_flattened m globals, refl)
