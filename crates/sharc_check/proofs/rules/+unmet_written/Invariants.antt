use Rattle.sharc_check.proofs.Imports.{length}
use Rattle.sharc_check.proofs.rules.+unmet_written.Given as goal

abbrev pub decreases-unmet_written : goal.decreases-unmet_written
decreases-unmet_written l = length l.levels.now
