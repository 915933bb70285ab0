use Rattle.sharc_reply_laws.proofs.Keeping as kept
use Rattle.sharc_reply_laws.proofs.kept.kept_laws.Goals as goal

pub returns : goal.returns
returns c = kept.kept_laws c.built_is_sound.ensures c.verdicts_are_told.ensures.run_only c.records_are_told.ensures
