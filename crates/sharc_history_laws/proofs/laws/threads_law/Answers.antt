use Rattle.sharc_history_laws.proofs.Spawned.{threads_told}
use Rattle.sharc_history_laws.proofs.laws.threads_law.Goals as goal

pub returns : goal.returns
returns c = λ x code s ls wt fits few run checked.
    let laws = c.invariant_laws.ensures.runs in
    let there = c.invariant_laws.ensures in
    threads_told there.cells there.pointers there.rights laws c.invariant_laws.ensures.opens c.invariant_laws.ensures.keeps x code s ls wt fits few run ((laws.checked code s run).0 checked)
