use Rattle.sharc_meaning_tests.proofs.Imports.{length}
use Rattle.sharc_meaning_tests.proofs.listed.+add_all.Given as goal

abbrev pub decreases-add_all : goal.decreases-add_all
decreases-add_all l = length l.rest.now
