use Rattle.sharc_meaning.proofs.Resting.{at_rest, from_some_fuel}
use Rattle.sharc_meaning.proofs.laws.reference_laws.Goals as goal

pub returns : goal.returns
returns c = record { at_rest = at_rest; from_some_fuel = from_some_fuel }
