use Rattle.sharc_ask.proofs.Imports.{length}
use Rattle.sharc_ask.proofs.frames.+push_pointers.Given as goal

abbrev pub decreases-push_pointers : goal.decreases-push_pointers
decreases-push_pointers l = length l.variables.now
