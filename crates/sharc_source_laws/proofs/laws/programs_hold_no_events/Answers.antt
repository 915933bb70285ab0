use Rattle.sharc_source_laws.proofs.Lines.{no_events}
use Rattle.sharc_source_laws.proofs.laws.programs_hold_no_events.Goals as goal

pub returns : goal.returns
returns c = no_events
