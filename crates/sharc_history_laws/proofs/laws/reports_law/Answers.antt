use Rattle.sharc_history_laws.proofs.{Conflicting.accesses_show, Logged.lacking, Named.named, Noting.notes_told, Sole.casts_show}
use Rattle.sharc_history_laws.proofs.laws.reports_law.Goals as goal

pub returns-clause-locks : goal.returns-clause-locks
returns-clause-locks c = λ x code s ls wt fits few run checked.
    let laws = c.invariant_laws.ensures.runs in
    let there = c.invariant_laws.ensures in
    (lacking there.cells there.pointers there.rights laws c.invariant_laws.ensures.opens c.invariant_laws.ensures.keeps x code s ls wt fits few run ((laws.checked code s run).0 checked)).1.shows

pub returns-clause-casts : goal.returns-clause-casts
returns-clause-casts c = λ x code s ls wt fits few run checked.
    let laws = c.invariant_laws.ensures.runs in
    let there = c.invariant_laws.ensures in
    casts_show laws.turns.outcomes c.runs_report.ensures.tests x code s ls wt fits few
    (λ run is_run. record { halts = (lacking there.cells there.pointers there.rights laws c.invariant_laws.ensures.opens c.invariant_laws.ensures.keeps x code s ls wt fits few run is_run).1.halts })
    (λ run is_run. (lacking there.cells there.pointers there.rights laws c.invariant_laws.ensures.opens c.invariant_laws.ensures.keeps x code s ls wt fits few run is_run).0)
    run ((laws.checked code s run).0 checked)

pub returns-clause-accesses : goal.returns-clause-accesses
returns-clause-accesses c = λ x code s ls wt fits few run checked.
    let laws = c.invariant_laws.ensures.runs in
    let there = c.invariant_laws.ensures in
    accesses_show laws.turns.outcomes c.runs_report.ensures.conflicts c.runs_bits.ensures x code s ls wt fits few
    (λ run is_run. record { halts = (lacking there.cells there.pointers there.rights laws c.invariant_laws.ensures.opens c.invariant_laws.ensures.keeps x code s ls wt fits few run is_run).1.halts })
    run ((laws.checked code s run).0 checked)

pub returns-clause-notes : goal.returns-clause-notes
returns-clause-notes c = λ x code s ls wt fits few run checked. notes_told c.invariant_laws.ensures.runs.turns.outcomes code s run ((c.invariant_laws.ensures.runs.checked code s run).0 checked)

pub returns-clause-named : goal.returns-clause-named
returns-clause-named c = λ x code s ls wt fits few run checked j report kind site names.
    let laws = c.invariant_laws.ensures.runs in
    let there = c.invariant_laws.ensures in
    let is_run = (laws.checked code s run).0 checked in
    let conflict = accesses_show laws.turns.outcomes c.runs_report.ensures.conflicts c.runs_bits.ensures x code s ls wt fits few
    (λ run is_run. record { halts = (lacking there.cells there.pointers there.rights laws c.invariant_laws.ensures.opens c.invariant_laws.ensures.keeps x code s ls wt fits few run is_run).1.halts })
    run is_run j in
    named code s run j report kind site conflict (notes_told laws.turns.outcomes code s run is_run j) names
