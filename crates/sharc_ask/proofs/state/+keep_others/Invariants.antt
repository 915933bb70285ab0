use Rattle.sharc_ask.proofs.Imports.{length}
use Rattle.sharc_ask.proofs.state.+keep_others.Given as goal

abbrev pub decreases-keep_others : goal.decreases-keep_others
decreases-keep_others l = length l.cells.now
