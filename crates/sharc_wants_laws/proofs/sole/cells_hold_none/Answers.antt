use Rattle.sharc_wants_laws.proofs.{Imports.{◌≡◌, ◌+◌, ⊎_elim, ◌∷◌, [], place_after, cell_refers, IsBeingFreed, objects_there, tested_object}, Nowhere.other_freed}
use Rattle.sharc_wants_laws.proofs.sole.cells_hold_none.Goals as goal

pub returns : goal.returns
returns c = λ m code x s ls wt fits small first test earlier checked register passes p i cell at is holds.
    let was = c.seen_law.ensures.begins code s (test ∷ []) earlier checked in
    let g = place_after code s earlier in
    let obj = objects_there x code s ls earlier in
    let n = tested_object code s test earlier register in
    let alone = c.passed_are_alone.ensures x code s ls wt fits small test earlier checked register passes in
    ⊎_elim
    (λ (here : cell_refers x s g obj p i ≡ n). absurd (alone.cells p i here))
    (λ (freed : IsBeingFreed code g p). (freed, other_freed x code s g obj test.thread ((g.threads test.thread).at.refs + register) n alone register passes.site passes.is_test p freed))
    (c.kept_law.ensures.cells x code s ls wt fits small m.typed first earlier was p i n cell at is holds.refers_there)
