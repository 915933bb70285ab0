use Rattle.sharc_history_laws.proofs.{Stored.stored, Stuck.may_not_come, Woken.awaited}
use Rattle.sharc_history_laws.proofs.laws.stuck_law.Goals as goal

pub returns : goal.returns
returns c = λ x code s ls wt fits few follow r first run checked t on up e own act.
    let laws = c.invariant_laws.ensures.runs in
    let there = c.invariant_laws.ensures in
    let is_run = (laws.checked code s run).0 checked in
    let stands = c.invariant_laws.ensures.states in
    let told = stored c.states_law.ensures.told stands there.cells there.pointers there.rights laws c.invariant_laws.ensures.opens c.invariant_laws.ensures.keeps x code s ls wt fits few r first run is_run in
    let waiters = awaited c.waiters_laws.ensures stands there.cells there.pointers there.rights laws c.invariant_laws.ensures.opens c.invariant_laws.ensures.keeps x code s ls wt fits few follow r first run is_run in
    may_not_come c.awaits_law.ensures.held c.awaits_law.ensures.gone stands there.cells x code s ls wt fits few r run checked told waiters t on up e own act
