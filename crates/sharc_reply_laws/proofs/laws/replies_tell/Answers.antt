use Rattle.sharc_reply_laws.proofs.Ordered.{replies}
use Rattle.sharc_reply_laws.proofs.laws.replies_tell.Goals as goal

pub returns : goal.returns
returns c = replies c.built_runs_tell.ensures c.texts_begin_with_prints.ensures c.stops_law.ensures c.chosen_are_few.ensures c.sources_are_one.ensures c.verdicts_are_told.ensures.run_only c.records_are_told.ensures
