use Rattle.sharc_record.proofs.Turning.{one_has}
use Rattle.sharc_record.proofs.journaled.turn_law.Goals as goal

pub returns : goal.returns
returns c = one_has
