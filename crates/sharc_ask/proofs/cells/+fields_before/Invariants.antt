use Rattle.sharc_ask.proofs.Imports.{length}
use Rattle.sharc_ask.proofs.cells.+fields_before.Given as goal

abbrev pub decreases-fields_before : goal.decreases-fields_before
decreases-fields_before l = length l.fields.now
