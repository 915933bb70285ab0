use Rattle.sharc_top.proofs.{Imports.refl, Recording.replies_no_recording}
use Rattle.sharc_top.proofs.replayed.file_refusal.Goals as goal

pub returns-in_ok-text-in-Line : goal.returns-in_ok-text-in-Line
returns-in_ok-text-in-Line c = replies_no_recording _ c.in-Line.line _ _ c.requires.short (rw c.in-Line.is at c.requires.fault) refl c.in_ok-text-in-Line.ensures
