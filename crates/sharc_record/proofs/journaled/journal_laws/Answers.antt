use Rattle.sharc_record.proofs.Names.{names_tell}
use Rattle.sharc_record.proofs.journaled.journal_laws.Goals as goal

pub returns : goal.returns
returns c = names_tell
