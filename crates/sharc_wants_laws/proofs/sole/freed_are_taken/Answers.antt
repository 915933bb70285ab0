use Rattle.sharc_wants_laws.proofs.{Imports.{◌≡◌, ⊎_elim, ◌+◌, [], ◌∷◌, ◌++◌, sym, ap, ◌∙◌, Emptied, events_of, Begun, ref, place_after, MayStart, history_of, objects_there}, Cause.{clearing_empties, register_there, same_register}, Freed.last_taken}
use Rattle.sharc_wants_laws.proofs.sole.freed_are_taken.Goals as goal

pub returns : goal.returns
returns c = λ m p flat flattens fits code is x s ls wt fits_code small run checked n y.
    let R = history_of code s run in
    let at = (place_after code s run).threads y.thread in
    let consistent = c.paths_law.ensures x code s ls wt fits_code small run checked in
    ⊎_elim
    (λ (none : events_of y.thread R ≡ []).
    let nothing = c.silent_have_nothing.ensures m p flat flattens fits code is s run checked consistent y.thread none in
    absurd (y.some (sym (register_there code at y.register y.layout y.site (at.at.refs + y.register) y.is_free y.clearing ∙ y.object) ∙ nothing.registers (at.at.refs + y.register))))
    (λ (k : (b : Begun m R y.thread) × MayStart m b.own.function).
    let e = c.frees_empty.ensures m p flat flattens fits code is s run checked consistent y.thread k.0 k.1 (clearing_empties at.own.stage y.clearing) in
    let same : e.2.register ≡ y.register = same_register e.2.register e.2.layout e.2.site y.register y.layout y.site (sym e.2.next ∙ y.is_free) in
    let t = c.last_takers.ensures.took m R y.thread k.0 e.0 e.1 e.2.before n (e.2.given_is ∙ ap (λ r. e.2.before ++ Emptied (ref at r) ∷ []) same ∙ ap (λ o. e.2.before ++ Emptied o ∷ []) y.object) in
    last_taken code s (objects_there x code s ls) c.seen_law.ensures.begins
    (λ one earlier checked. c.grows_law.ensures x code s ls wt fits_code small one earlier checked)
    (λ run checked u n some t. c.taken_are_live.ensures m p flat flattens fits code is x s ls wt fits_code small run checked u n some t)
    run checked y.thread n y.some t)
    (c.threads_have_begun.ensures m p.typed flat flattens fits code is x s ls wt fits_code small run checked y.thread)
