use Rattle.sharc_wants_laws.proofs.Imports.{◌∷◌, [], tested_object}
use Rattle.sharc_wants_laws.proofs.sole.mutexes_hold_none.Goals as goal

pub returns : goal.returns
returns c = λ m code x s ls wt fits small first test earlier checked register passes cell holds.
    let was = c.seen_law.ensures.begins code s (test ∷ []) earlier checked in
    let k = c.kept_law.ensures.logs x code s ls wt fits small m.typed first earlier was cell (tested_object code s test earlier register) holds.0 holds.1 in
    (c.passed_are_alone.ensures x code s ls wt fits small test earlier checked register passes).logs k.0 k.1 k.2
