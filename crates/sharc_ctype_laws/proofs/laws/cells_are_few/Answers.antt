use Rattle.sharc_ctype_laws.proofs.Sized as sized
use Rattle.sharc_ctype_laws.proofs.laws.cells_are_few.Goals as goal

pub returns : goal.returns
returns c = sized.cells_are_few
