use Rattle.sharc_trace_laws.proofs.Events.{audited}
use Rattle.sharc_trace_laws.proofs.laws.files_are_audited.Goals as goal

pub returns : goal.returns
returns c = audited c.files_are_event_files.ensures c.audits_are_told.ensures
