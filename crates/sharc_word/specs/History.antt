-- Legal histories of words: what the steps of some words can have answered, one after the other.
use Rattle.std.specs.Prelude.{ℕ, ◌≡◌, ◌<◌, ◌==◌, List, ◌∷◌, ◌++◌, length, filter, slice_index}
use Rattle.sharc_word.specs.{declared.step.WordEvent.WordEvent, Words.words_after}

-- the event can come next where the words are these: it is on one of them, and its result is what is there
pub record MayFollow (words : List ℕ) (event : WordEvent) : Type 0 where
  pub on_a_word : event.step.word < length words
  pub result_is : event.result ≡ slice_index words event.step.word

-- each event can come next where the words are those that the earlier events leave of the opening words
pub record LegalHistory (opening : List ℕ) (events : List WordEvent) : Type 0 where
  pub each : (earlier later : List WordEvent) (event : WordEvent) → events ≡ earlier ++ event ∷ later
      → MayFollow (words_after opening earlier) event

-- the events of one thread, in their order
abbrev pub events_of : ℕ → List WordEvent → List WordEvent
events_of thread events = filter (λ event. event.thread == thread) events
