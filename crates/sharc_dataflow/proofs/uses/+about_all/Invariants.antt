use Rattle.sharc_dataflow.proofs.Imports.{length}
use Rattle.sharc_dataflow.proofs.uses.+about_all.Given as goal

abbrev pub decreases-about_all : goal.decreases-about_all
decreases-about_all a = length a.list.now
