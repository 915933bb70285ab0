use Rattle.sharc_invariant.proofs.Whole.{runs_stand}
use Rattle.sharc_invariant.proofs.laws.runs_stand.Goals as goal

pub returns : goal.returns
returns c = runs_stand c.state_stands.ensures c.runs_stay.ensures.from_the_beginning
