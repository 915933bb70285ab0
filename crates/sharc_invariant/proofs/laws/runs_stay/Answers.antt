use Rattle.sharc_invariant.proofs.Whole.{runs_stay, from_the_beginning}
use Rattle.sharc_invariant.proofs.laws.runs_stay.Goals as goal

pub returns-clause-stay : goal.returns-clause-stay
returns-clause-stay c = runs_stay c.keeps.ensures

pub returns-clause-from_the_beginning : goal.returns-clause-from_the_beginning
returns-clause-from_the_beginning c = from_the_beginning c.begins.ensures.opens c.keeps.ensures
