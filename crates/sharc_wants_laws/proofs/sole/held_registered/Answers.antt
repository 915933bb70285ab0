use Rattle.sharc_wants_laws.proofs.{Imports.{⊎_elim, subst, sym, reverse, begun, machine_after, turns_of, Erase, said_in, elements_before, founds_of, told_in, HoldsRegistered}, Coming.paths_come, Keeping.{not_silent, registered}, SoleTelling.events_are}
use Rattle.sharc_wants_laws.proofs.sole.held_registered.Goals as goal

pub returns : goal.returns
returns c = λ m p flat flattens fits code is s run checked consistent thread b may.
    let names = c.each_names_itself.ensures m.typed p.typed.resolved p.typed.placed p.typed.low in
    let holds = c.path_holds.ensures m p flat flattens fits code is in
    let R = reverse (told_in (Erase code s run)) in
    let elements = elements_before code s thread run in
    let founds = founds_of (turns_of thread run) in
    let at = machine_after code s (begun code s thread) founds in
    let said = said_in code s (begun code s thread) elements founds in
    let events = events_are c.own_are_told.ensures c.run_paths_law.ensures m code holds s run checked consistent thread in
    subst (λ at. HoldsRegistered code at b) (sym (c.run_paths_law.ensures code s thread run checked).machine)
    (⊎_elim
    (λ h. absurd (not_silent m names code R thread at said events b may h.nothing))
    (λ w. registered m names code R thread at said events b may w)
    (paths_come c.typed_asks_the_same.ensures c.typed_is_framed.ensures c.made_counts.ensures c.accepted_levels.ensures c.functions_are_named.ensures.named c.framed_law.ensures c.paths_law.ensures c.path_laws.ensures m p flat flattens fits code is s thread elements founds (c.run_paths_law.ensures code s thread run checked).path (consistent thread)))
