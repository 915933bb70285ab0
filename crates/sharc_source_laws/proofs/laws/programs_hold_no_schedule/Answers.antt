use Rattle.sharc_source_laws.proofs.Lines.{no_schedule}
use Rattle.sharc_source_laws.proofs.laws.programs_hold_no_schedule.Goals as goal

pub returns : goal.returns
returns c = no_schedule
