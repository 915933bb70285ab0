use Rattle.sharc_ask.proofs.Imports.{length}
use Rattle.sharc_ask.proofs.cells.+struct_cells.Given as goal

abbrev pub decreases-struct_cells : goal.decreases-struct_cells
decreases-struct_cells l = length l.items.now
