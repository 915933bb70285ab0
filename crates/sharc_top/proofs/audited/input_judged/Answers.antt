use Rattle.sharc_top.proofs.audited.input_judged.Goals as goal

pub file_judged-requires : goal.file_judged-requires
file_judged-requires c = record { short = c.requires; file = c.in-Ok.ensures.file; few = c.in-Ok.ensures.few }
