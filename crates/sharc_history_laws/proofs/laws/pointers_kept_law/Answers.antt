use Rattle.sharc_history_laws.proofs.KeptPointers.{global_kept, made_kept, other_kept}
use Rattle.sharc_history_laws.proofs.laws.pointers_kept_law.Goals as goal

pub returns-clause-made : goal.returns-clause-made
returns-clause-made c = λ x code s ls wt fits few r first run checked p i o live e last pointer there.
    let laws = c.invariant_laws.ensures.runs in
    let cells = c.invariant_laws.ensures in
    made_kept cells.cells cells.pointers cells.rights laws c.invariant_laws.ensures.opens c.invariant_laws.ensures.keeps x code s ls wt fits few c.invariant_laws.ensures.states r first run ((laws.checked code s run).0 checked) p i o live e last pointer there

pub returns-clause-globals : goal.returns-clause-globals
returns-clause-globals c = λ x code s ls wt fits few run checked n cell inside pointer.
    let laws = c.invariant_laws.ensures.runs in
    let cells = c.invariant_laws.ensures in
    global_kept cells.cells cells.pointers cells.rights laws c.invariant_laws.ensures.opens c.invariant_laws.ensures.keeps x code s ls wt fits few run ((laws.checked code s run).0 checked) n cell inside pointer

pub returns-clause-others : goal.returns-clause-others
returns-clause-others c = λ x code s ls wt fits few r first run checked n cell beside.
    let laws = c.invariant_laws.ensures.runs in
    let cells = c.invariant_laws.ensures in
    other_kept cells.cells cells.pointers cells.rights laws c.invariant_laws.ensures.opens c.invariant_laws.ensures.keeps x code s ls wt fits few c.invariant_laws.ensures.states r first run ((laws.checked code s run).0 checked) n cell beside
