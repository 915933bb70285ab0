use Rattle.std.proofs.Common.{length}
use Rattle.sharc_judge.proofs.table.+note.Given as goal

abbrev pub decreases-note : goal.decreases-note
decreases-note l = length l.topics.now
