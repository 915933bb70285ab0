use Rattle.sharc_mode.proofs.Imports.{length}
use Rattle.sharc_mode.proofs.types.+holds_private_in.Given as goal

abbrev pub decreases-holds_private_in : goal.decreases-holds_private_in
decreases-holds_private_in l = length l.levels.now
