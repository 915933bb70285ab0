-- How many granules the globals of a program take.
use Rattle.std.specs.Prelude.{◌≤◌}
use Rattle.sharc_tree.specs.{Low.IsLow, Placed.IsPlaced}
use Rattle.sharc_ctype.specs.Resolved.{Resolution, IsResolved, globals_in}
use Rattle.sharc_flat.specs.Tables.{all_granules}

-- no more than the limits let a program have cells
abbrev pub GranulesAreFew : Type 0
GranulesAreFew = (r : Resolution) → IsResolved r → IsPlaced r.program → IsLow r.program
    → all_granules r (globals_in r.program.items) ≤ 65536
