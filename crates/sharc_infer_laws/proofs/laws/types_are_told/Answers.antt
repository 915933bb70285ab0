use Rattle.sharc_infer_laws.proofs.Types.{types_are_told}
use Rattle.sharc_infer_laws.proofs.laws.types_are_told.Goals as goal

pub returns : goal.returns
returns c = types_are_told c.mode_laws.ensures.settled c.link_laws.ensures.counted
