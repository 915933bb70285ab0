use Rattle.sharc_trace_laws.proofs.Recorded.{recordings_traced}
use Rattle.sharc_trace_laws.proofs.laws.recordings_are_traced.Goals as goal

pub returns : goal.returns
returns c = recordings_traced c.sources_are_one.ensures c.records_are_told.ensures c.replay_laws.ensures c.programs_hold_no_schedule.ensures c.compiled_are_alike.ensures c.histories_are_alike.ensures c.history_laws.ensures
