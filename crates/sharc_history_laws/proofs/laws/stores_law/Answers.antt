use Rattle.sharc_history_laws.proofs.Stored.{stored}
use Rattle.sharc_history_laws.proofs.laws.stores_law.Goals as goal

pub returns : goal.returns
returns c = λ x code s ls wt fits few r first run checked.
    let laws = c.invariant_laws.ensures.runs in
    let there = c.invariant_laws.ensures in
    (stored c.states_law.ensures.told c.invariant_laws.ensures.states there.cells there.pointers there.rights laws c.invariant_laws.ensures.opens c.invariant_laws.ensures.keeps x code s ls wt fits few r first run ((laws.checked code s run).0 checked)).legal
