use Rattle.sharc_suggest_laws.proofs.Types.{types_stay}
use Rattle.sharc_suggest_laws.proofs.laws.types_stay.Goals as goal

pub returns : goal.returns
returns c = types_stay
