use Rattle.sharc_source_laws.proofs.Each.{each_held}
use Rattle.sharc_source_laws.proofs.laws.each_constant_is_held.Goals as goal

pub returns : goal.returns
returns c = each_held c.constants_are_held.ensures
