use Rattle.sharc_ask.proofs.Imports.{length}
use Rattle.sharc_ask.proofs.endings.+release_all.Given as goal

abbrev pub decreases-release_all : goal.decreases-release_all
decreases-release_all l = length l.references.now
