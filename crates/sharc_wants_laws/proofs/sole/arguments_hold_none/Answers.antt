use Rattle.sharc_wants_laws.proofs.{Imports.{◌∷◌, [], history_of, tested_object}, Elsewhere.pointer_taken, Nowhere.gives}
use Rattle.sharc_wants_laws.proofs.sole.arguments_hold_none.Goals as goal

pub returns : goal.returns
returns c = λ m p flat flattens fits code is x s ls wt fits_code small first test earlier checked register passes u holds.
    let was = c.seen_law.ensures.begins code s (test ∷ []) earlier checked in
    let n = tested_object code s test earlier register in
    let k = gives m.typed (history_of code s earlier) u n holds.spawned in
    (c.passed_are_alone.ensures x code s ls wt fits_code small test earlier checked register passes).arguments u
    (c.kept_law.ensures.arguments x code s ls wt fits_code small m.typed first earlier was u k.function n k.argument holds.unread k.spawned (pointer_taken m flat flattens code is k.function k.takes) k.refers_there)
