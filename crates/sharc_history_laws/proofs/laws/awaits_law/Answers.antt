use Rattle.sharc_history_laws.proofs.{Awaited.awaited, Ended.not_went}
use Rattle.sharc_history_laws.proofs.laws.awaits_law.Goals as goal

pub returns-clause-held : goal.returns-clause-held
returns-clause-held c = λ x code s ls wt fits few run checked t on cell site is waits.
    let laws = c.invariant_laws.ensures.runs in
    let there = c.invariant_laws.ensures in
    awaited there.cells there.pointers there.rights laws c.invariant_laws.ensures.opens c.invariant_laws.ensures.keeps x code s ls wt fits few run ((laws.checked code s run).0 checked) t on cell site is waits

pub returns-clause-gone : goal.returns-clause-gone
returns-clause-gone c = λ x code s ls wt fits few run checked n lt state.
    let laws = c.invariant_laws.ensures.runs in
    let there = c.invariant_laws.ensures in
    not_went there.cells there.pointers there.rights laws c.invariant_laws.ensures.opens c.invariant_laws.ensures.keeps x code s ls wt fits few run ((laws.checked code s run).0 checked) n
    ((c.states_law.ensures.told code s run checked n lt).ended) state
