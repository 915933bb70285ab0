use Rattle.sharc_top.proofs.{Imports.refl, Judging.replies_fault}
use Rattle.sharc_top.proofs.audited.file_refusal.Goals as goal

pub returns : goal.returns
returns c = replies_fault _ c.args.fault _ _ c.requires.short c.requires.fault refl c.in_ok-text.ensures
