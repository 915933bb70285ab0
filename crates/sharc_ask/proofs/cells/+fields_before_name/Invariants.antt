use Rattle.sharc_ask.proofs.Imports.{length}
use Rattle.sharc_ask.proofs.cells.+fields_before_name.Given as goal

abbrev pub decreases-fields_before_name : goal.decreases-fields_before_name
decreases-fields_before_name l = length l.fields.now
