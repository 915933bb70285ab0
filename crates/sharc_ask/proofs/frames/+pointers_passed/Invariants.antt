use Rattle.sharc_ask.proofs.Imports.{length}
use Rattle.sharc_ask.proofs.frames.+pointers_passed.Given as goal

abbrev pub decreases-pointers_passed : goal.decreases-pointers_passed
decreases-pointers_passed l = length l.parameters.now
