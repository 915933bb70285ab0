use Rattle.sharc_ask.proofs.Imports.{length}
use Rattle.sharc_ask.proofs.state.+is_among.Given as goal

abbrev pub decreases-is_among : goal.decreases-is_among
decreases-is_among l = length l.held.now
