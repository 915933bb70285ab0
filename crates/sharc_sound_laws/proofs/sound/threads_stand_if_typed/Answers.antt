use Rattle.sharc_sound_laws.proofs.{Imports.{ℕ, inl, inr, ⊎_elim, place_after, history_of, IsNotThere, IsThereIn}, Following.placed}
use Rattle.sharc_sound_laws.proofs.sound.threads_stand_if_typed.Goals as goal

pub returns : goal.returns
returns c = λ m p flat flattens fits code is x ls wt s shape few run checked thread.
    let R = history_of code s run in
    let at = (place_after code s run).threads thread in
    ⊎_elim
    (λ (n : IsNotThere R thread at). inl n)
    (λ (h : IsThereIn m code R thread at).
    let begins = c.threads_begin_by_right.ensures m p.typed flat flattens fits code is x s ls wt shape few run checked thread h.tells in
    inr (placed m code R thread h.tells begins at (h.stands begins.may)))
    (c.thread_wants.ensures m p flat flattens fits code is s run checked (c.paths_law.ensures x code s ls wt shape few run checked) thread)
