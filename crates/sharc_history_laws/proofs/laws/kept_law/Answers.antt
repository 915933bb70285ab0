use Rattle.sharc_history_laws.proofs.{Kept.{locked_logged, spawned_given}, KeptCells.cells_kept, Started.begun_runs, Stored.stored}
use Rattle.sharc_history_laws.proofs.laws.kept_law.Goals as goal

pub returns-clause-logs : goal.returns-clause-logs
returns-clause-logs c = λ x code s ls wt fits few r first run checked cell o is locked.
    let laws = c.invariant_laws.ensures.runs in
    let there = c.invariant_laws.ensures in
    let told = stored c.states_law.ensures.told c.invariant_laws.ensures.states there.cells there.pointers there.rights laws c.invariant_laws.ensures.opens c.invariant_laws.ensures.keeps x code s ls wt fits few r first run ((laws.checked code s run).0 checked) in
    locked_logged there.cells x code s ls wt fits r run told cell o is locked

pub returns-clause-arguments : goal.returns-clause-arguments
returns-clause-arguments c = λ x code s ls wt fits few r first run checked u f o v none spawned takes refers.
    let laws = c.invariant_laws.ensures.runs in
    let there = c.invariant_laws.ensures in
    let is_run = (laws.checked code s run).0 checked in
    let told = stored c.states_law.ensures.told c.invariant_laws.ensures.states there.cells there.pointers there.rights laws c.invariant_laws.ensures.opens c.invariant_laws.ensures.keeps x code s ls wt fits few r first run is_run in
    let begun = begun_runs there.cells there.pointers there.rights laws c.standing_laws.ensures.spawns c.invariant_laws.ensures.opens c.invariant_laws.ensures.keeps x code s ls wt fits few run is_run in
    spawned_given there.cells x code s ls wt fits r run told begun u f o v none spawned takes refers

pub returns-clause-cells : goal.returns-clause-cells
returns-clause-cells c = λ x code s ls wt fits few r first run checked p i o cell at is refers.
    let laws = c.invariant_laws.ensures.runs in
    let there = c.invariant_laws.ensures in
    cells_kept c.invariant_laws.ensures.states there.cells there.pointers there.rights laws c.invariant_laws.ensures.opens c.invariant_laws.ensures.keeps x code s ls wt fits few r first run ((laws.checked code s run).0 checked) p i o cell at is refers
