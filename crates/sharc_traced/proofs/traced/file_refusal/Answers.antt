use Rattle.std.proofs.Common.{refl}
use Rattle.sharc_traced.specs.Replies as replies
use Rattle.sharc_traced.proofs.traced.file_refusal.Goals as goal

pub returns-in_ok-text-in-Line : goal.returns-in_ok-text-in-Line
returns-in_ok-text-in-Line c =
    replies.no_recording c.in-Line.line (rw c.in-Line.is at c.requires) record { status = refl; written = c.in_ok-text-in-Line.ensures; why = refl }
