use Rattle.sharc_parse.proofs.FaultLaws.{no_fault}
use Rattle.sharc_parse.proofs.laws.programs_have_no_fault.Goals as goal

pub returns : goal.returns
returns c = no_fault
