use Rattle.sharc_wants_laws.proofs.{Imports.{◌≡◌, inl, inr, ⊎_elim, [], events_of, TellsIn, history_of}, Beginning.has_begun}
use Rattle.sharc_wants_laws.proofs.sole.threads_have_begun.Goals as goal

pub returns : goal.returns
returns c = λ m p flat flattens fits code is x s ls wt shape few run checked thread.
    let R = history_of code s run in
    ⊎_elim
    (λ (e : events_of thread R ≡ []). inl e)
    (λ (k : TellsIn m R thread). inr (has_begun m R thread k (c.threads_begin_by_right.ensures m p flat flattens fits code is x s ls wt shape few run checked thread k)))
    (c.typed_threads_tell.ensures m p flat flattens fits code is s run checked (c.paths_law.ensures x code s ls wt shape few run checked) thread)
