use Rattle.sharc_invariant.proofs.Obeyed.{effect_tied}
use Rattle.sharc_invariant.proofs.laws.events_obey.Goals as goal

pub returns : goal.returns
returns c = λ z l f w w' log inv tied t returned changes none' e. effect_tied z l f w w' log inv tied t returned changes none' e
