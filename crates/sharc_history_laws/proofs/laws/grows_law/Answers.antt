use Rattle.sharc_history_laws.proofs.{Imports.{◌∷◌}, KeptPointers.grown}
use Rattle.sharc_history_laws.proofs.laws.grows_law.Goals as goal

pub returns : goal.returns
returns c = λ x code s ls wt fits few one earlier checked.
    let laws = c.invariant_laws.ensures.runs in
    let cells = c.invariant_laws.ensures in
    grown cells.cells cells.pointers cells.rights laws c.invariant_laws.ensures.opens c.invariant_laws.ensures.keeps x code s ls wt fits few one earlier ((laws.checked code s (one ∷ earlier)).0 checked)
