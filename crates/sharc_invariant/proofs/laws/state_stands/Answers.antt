use Rattle.sharc_invariant.proofs.Stands.{state_stands}
use Rattle.sharc_invariant.proofs.laws.state_stands.Goals as goal

pub returns : goal.returns
returns c = state_stands
