use Rattle.sharc_parse.proofs.FaultLaws.{same_fault}
use Rattle.sharc_parse.proofs.laws.one_fault.Goals as goal

pub returns : goal.returns
returns c = same_fault
