use Rattle.sharc_history_laws.proofs.Started.{begun_runs}
use Rattle.sharc_history_laws.proofs.laws.starts_law.Goals as goal

pub returns : goal.returns
returns c = λ x code s ls wt fits few run checked.
    let laws = c.invariant_laws.ensures.runs in
    let there = c.invariant_laws.ensures in
    (begun_runs there.cells there.pointers there.rights laws c.standing_laws.ensures.spawns c.invariant_laws.ensures.opens c.invariant_laws.ensures.keeps x code s ls wt fits few run ((laws.checked code s run).0 checked)).starts
