use Rattle.sharc_suggest_laws.proofs.Positions.{positions_stay}
use Rattle.sharc_suggest_laws.proofs.laws.positions_stay.Goals as goal

pub returns : goal.returns
returns c = positions_stay
