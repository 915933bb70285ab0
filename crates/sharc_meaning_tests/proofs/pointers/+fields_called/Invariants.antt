use Rattle.sharc_meaning_tests.proofs.Imports.{length}
use Rattle.sharc_meaning_tests.proofs.pointers.+fields_called.Given as goal

abbrev pub decreases-fields_called : goal.decreases-fields_called
decreases-fields_called l = length l.items.now
