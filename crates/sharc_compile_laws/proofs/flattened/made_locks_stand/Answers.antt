use Rattle.sharc_compile_laws.proofs.Imports.{flat_of}
use Rattle.sharc_compile_laws.proofs.flattened.made_locks_stand.Goals as goal

pub returns : goal.returns
returns c = λ m code is. c.flattened_locks_stand.ensures m (flat_of code) (c.made_is_flattened.ensures m code is)
