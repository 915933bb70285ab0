use Rattle.sharc_ask.proofs.Imports.{length}
use Rattle.sharc_ask.proofs.endings.+release_pointers.Given as goal

abbrev pub decreases-release_pointers : goal.decreases-release_pointers
decreases-release_pointers l = length l.variables.now
