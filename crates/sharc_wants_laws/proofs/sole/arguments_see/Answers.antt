use Rattle.sharc_wants_laws.proofs.{Imports.history_of, Elsewhere.argument_seen}
use Rattle.sharc_wants_laws.proofs.sole.arguments_see.Goals as goal

pub returns : goal.returns
returns c = λ m flat flattens code is x s ls wt fits few run checked u o nz refers.
    argument_seen m flat flattens code is (history_of code s run) u o nz (c.seen_law.ensures.arguments x code s ls wt fits few run checked u o nz refers)
