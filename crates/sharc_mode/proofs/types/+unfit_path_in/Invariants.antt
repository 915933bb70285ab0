use Rattle.sharc_mode.proofs.Imports.{length}
use Rattle.sharc_mode.proofs.types.+unfit_path_in.Given as goal

abbrev pub decreases-unfit_path_in : goal.decreases-unfit_path_in
decreases-unfit_path_in l = length l.levels.now
