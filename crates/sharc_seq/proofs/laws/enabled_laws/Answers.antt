use Rattle.sharc_seq.proofs.{Imports.{ℕ, List, get_or, refl, arith, enabled, any_default}, Choosing.{none_enabled, picked}}
use Rattle.sharc_seq.proofs.laws.enabled_laws.Goals as goal

pub returns : goal.returns
returns c = record {
  none = λ code s limit g fits few none. none_enabled code s limit g fits few none;
  listed = λ code s limit g place low.
      let among : List ℕ = enabled code s limit g in
      let one = picked code s limit g among place (get_or among place 0) refl low (any_default among place 0 (get_or among place 0) low) in
      record { low = omega (arith, one.low); yes = one.yes };
}
