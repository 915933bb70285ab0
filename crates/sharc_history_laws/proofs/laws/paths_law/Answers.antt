use Rattle.sharc_history_laws.proofs.Consists.{consists}
use Rattle.sharc_history_laws.proofs.laws.paths_law.Goals as goal

pub returns : goal.returns
returns c = λ x code s ls wt fits few run checked t.
    let laws = c.invariant_laws.ensures.runs in
    (consists laws c.invariant_laws.ensures.opens c.invariant_laws.ensures.keeps c.invariant_laws.ensures.cells c.invariant_laws.ensures.pointers x code s ls wt fits few run ((laws.checked code s run).0 checked)).paths t
