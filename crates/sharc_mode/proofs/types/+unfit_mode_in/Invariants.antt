use Rattle.sharc_mode.proofs.Imports.{length}
use Rattle.sharc_mode.proofs.types.+unfit_mode_in.Given as goal

abbrev pub decreases-unfit_mode_in : goal.decreases-unfit_mode_in
decreases-unfit_mode_in l = length l.levels.now
