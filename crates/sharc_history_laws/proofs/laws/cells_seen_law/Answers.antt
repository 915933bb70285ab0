use Rattle.sharc_history_laws.proofs.SeenCells.{cells_seen}
use Rattle.sharc_history_laws.proofs.laws.cells_seen_law.Goals as goal

pub returns : goal.returns
returns c = λ x code s ls wt fits few r first run checked.
    let laws = c.invariant_laws.ensures.runs in
    let there = c.invariant_laws.ensures in
    cells_seen c.invariant_laws.ensures.states there.cells there.pointers there.rights laws c.invariant_laws.ensures.opens c.invariant_laws.ensures.keeps x code s ls wt fits few r first run ((laws.checked code s run).0 checked)
