use Rattle.sharc_wants_laws.proofs.SoleCells as law
use Rattle.sharc_wants_laws.proofs.sole.cells_see.Goals as goal

pub returns : goal.returns
returns c = law.cells_see c.cells_seen_law.ensures c.pointers_made_law.ensures c.global_pointers_are.ensures
