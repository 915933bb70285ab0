use Rattle.sharc_history_laws.proofs.MadeOf.{pointers_made}
use Rattle.sharc_history_laws.proofs.laws.pointers_made_law.Goals as goal

pub returns : goal.returns
returns c = λ x code s ls wt fits few run checked.
    let laws = c.invariant_laws.ensures.runs in
    let there = c.invariant_laws.ensures in
    pointers_made there.cells there.pointers there.rights laws c.invariant_laws.ensures.opens c.invariant_laws.ensures.keeps x code s ls wt fits few run ((laws.checked code s run).0 checked)
