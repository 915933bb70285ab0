use Rattle.sharc_suggest_laws.proofs.Declared.{declarations_stay}
use Rattle.sharc_suggest_laws.proofs.laws.declarations_stay.Goals as goal

pub returns : goal.returns
returns c = declarations_stay
