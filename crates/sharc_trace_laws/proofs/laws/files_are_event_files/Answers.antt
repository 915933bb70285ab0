use Rattle.sharc_trace_laws.proofs.Events.{event_files}
use Rattle.sharc_trace_laws.proofs.laws.files_are_event_files.Goals as goal

pub returns : goal.returns
returns c = event_files c.programs_hold_no_events.ensures c.file_laws.ensures.lines
