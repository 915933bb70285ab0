use Rattle.sharc_wants_laws.proofs.{Imports.{◌+◌, ◌∷◌, [], place_after, history_of, objects_there, tested_object}, Only.{held_once, may_start}}
use Rattle.sharc_wants_laws.proofs.sole.threads_hold_none.Goals as goal

pub returns : goal.returns
returns c = λ m p flat flattens fits code is x s ls wt fits_code small test earlier checked register passes u which holds.
    let was = c.seen_law.ensures.begins code s (test ∷ []) earlier checked in
    let g = place_after code s earlier in
    let have = c.threads_have_begun.ensures m p.typed flat flattens fits code is x s ls wt fits_code small earlier was in
    let consistent = c.paths_law.ensures x code s ls wt fits_code small earlier was in
    let may = may_start m (c.each_names_itself.ensures m.typed p.typed.resolved p.typed.placed p.typed.low) (history_of code s earlier) have u holds.begun in
    let registered = c.held_registered.ensures m p flat flattens fits code is s earlier was consistent u holds.begun may in
    held_once x code s ls wt g (objects_there x code s ls earlier) (c.runs_stand.ensures x code s ls wt fits_code small earlier ((c.run_laws.ensures.checked code s earlier).0 was))
    (λ u off. c.causes_law.ensures.unstarted x code s ls wt fits_code small earlier was u off) test.thread ((g.threads test.thread).at.refs + register) (tested_object code s test earlier register)
    (c.passed_are_alone.ensures x code s ls wt fits_code small test earlier checked register passes)
    m (history_of code s earlier) u holds.begun registered holds.from register passes.site passes.is_test which holds.holds
