use Rattle.sharc_ask.proofs.Imports.{length}
use Rattle.sharc_ask.proofs.state.+place_of.Given as goal

abbrev pub decreases-place_of : goal.decreases-place_of
decreases-place_of l = length l.variables.now
