use Rattle.sharc_check.proofs.Touched.{reached, reached_is, is_reached}
use Rattle.sharc_check.proofs.rule_laws.reached_are_told.Goals as goal

pub returns : goal.returns
returns c = λ r. (reached r, λ k. (reached_is r k, is_reached r k))
