use Rattle.sharc_history_laws.proofs.{Seen.{runs_begin, logs_locked}, Stored.stored, Unread.arguments_given}
use Rattle.sharc_history_laws.proofs.laws.seen_law.Goals as goal

pub returns-clause-begins : goal.returns-clause-begins
returns-clause-begins c = λ code s later earlier run. runs_begin c.invariant_laws.ensures.runs code s later earlier run

pub returns-clause-logs : goal.returns-clause-logs
returns-clause-logs c = λ x code s ls wt fits few r first run checked u word o nz refers.
    let laws = c.invariant_laws.ensures.runs in
    let there = c.invariant_laws.ensures in
    let told = stored c.states_law.ensures.told c.invariant_laws.ensures.states there.cells there.pointers there.rights laws c.invariant_laws.ensures.opens c.invariant_laws.ensures.keeps x code s ls wt fits few r first run ((laws.checked code s run).0 checked) in
    logs_locked there.cells x code s ls wt fits r run told u word o nz refers

pub returns-clause-arguments : goal.returns-clause-arguments
returns-clause-arguments c = λ x code s ls wt fits few run checked u o nz refers.
    let laws = c.invariant_laws.ensures.runs in
    let there = c.invariant_laws.ensures in
    arguments_given there.cells there.pointers there.rights laws c.standing_laws.ensures.spawns c.invariant_laws.ensures.opens c.invariant_laws.ensures.keeps x code s ls wt fits few run ((laws.checked code s run).0 checked) u o nz refers
