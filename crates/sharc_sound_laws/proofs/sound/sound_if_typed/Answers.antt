use Rattle.sharc_sound_laws.proofs.{Imports.{◌≡◌, ℕ, ◌⊎◌, inl, inr, ⊎_elim, [], events_of, Follows, TellsIn, history_of}, Following.follows}
use Rattle.sharc_sound_laws.proofs.sound.sound_if_typed.Goals as goal

pub returns : goal.returns
returns c = λ m typed unsigned flat flattens fits code is x ls wt s shape few run checked.
    let R = history_of code s run in
    let told = c.typed_threads_tell.ensures m typed flat flattens fits code is s run checked (c.paths_law.ensures x code s ls wt shape few run checked) in
    let legal = c.waiters_law.ensures x code s ls wt shape few (c.waits_law.ensures m flat flattens code is) m.typed (c.made_code_begins.ensures m typed.resolved unsigned flat flattens code is) run checked in
    let threads : (thread : ℕ) → (events_of thread R ≡ []) ⊎ ((fuel : ℕ) × Follows m R fuel thread) = λ thread. ⊎_elim
    (λ (e : events_of thread R ≡ []). inl e)
    (λ (k : TellsIn m R thread). inr (follows m code R thread k (c.threads_begin_by_right.ensures m typed flat flattens fits code is x s ls wt shape few run checked thread k)))
    (told thread) in
    record {
      source = record { legal = legal; threads = threads };
      obeys = c.history_law.ensures x code s ls wt shape few run checked;
    }
