use Rattle.sharc_mode.proofs.Imports.{length}
use Rattle.sharc_mode.proofs.types.+field_of.Given as goal

abbrev pub decreases-field_of : goal.decreases-field_of
decreases-field_of l = length l.fields.now
