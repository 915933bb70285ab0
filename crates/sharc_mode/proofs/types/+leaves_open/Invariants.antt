use Rattle.sharc_mode.proofs.Imports.{length}
use Rattle.sharc_mode.proofs.types.+leaves_open.Given as goal

abbrev pub decreases-leaves_open : goal.decreases-leaves_open
decreases-leaves_open l = length l.levels.now
