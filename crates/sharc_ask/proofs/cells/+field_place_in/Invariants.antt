use Rattle.sharc_ask.proofs.Imports.{length}
use Rattle.sharc_ask.proofs.cells.+field_place_in.Given as goal

abbrev pub decreases-field_place_in : goal.decreases-field_place_in
decreases-field_place_in l = length l.items.now
