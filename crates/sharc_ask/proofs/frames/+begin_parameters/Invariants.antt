use Rattle.sharc_ask.proofs.Imports.{length}
use Rattle.sharc_ask.proofs.frames.+begin_parameters.Given as goal

abbrev pub decreases-begin_parameters : goal.decreases-begin_parameters
decreases-begin_parameters l = length l.parameters.now
