use Rattle.sharc_compile_laws.proofs.Traced.{stand, flattened_is_traced}
use Rattle.sharc_compile_laws.proofs.flattened.flattened_locks_stand.Goals as goal

pub returns : goal.returns
returns c = λ m flat is. stand flat (flattened_is_traced m flat is)
