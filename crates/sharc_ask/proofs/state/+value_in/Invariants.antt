use Rattle.sharc_ask.proofs.Imports.{length}
use Rattle.sharc_ask.proofs.state.+value_in.Given as goal

abbrev pub decreases-value_in : goal.decreases-value_in
decreases-value_in l = length l.variables.now
