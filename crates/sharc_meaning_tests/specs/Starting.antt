-- What a thread that has begun holds, read off a list of events.
use Rattle.std.specs.Prelude.{ℕ, ℤ, List, drop, Option, Some, None}
use Rattle.sharc_tree.specs.declared.event.SourceEvent.{SourceEvent}
use Rattle.sharc_mode.specs.Moded.{Assignment}
use Rattle.sharc_meaning.specs.{Events.events_of, Meaning.{Asked, asks}, References.held_count, Runs.answers_of}
use Rattle.sharc_judge.specs.Starting.{entry}

-- the answers of its events after its first
abbrev pub own_answers : List SourceEvent → ℕ → List ℤ
own_answers R thread = drop 1 (answers_of (events_of thread R))

abbrev pub count_by_entry : ℕ → Assignment → List SourceEvent → ℕ → ℕ → Option (ℕ × ℤ) → ℕ
count_by_entry fuel m R thread n None = 0
count_by_entry fuel m R thread n (Some (f, v)) = held_count (asks m f v (own_answers R thread) fuel) n

-- how many references to the object a thread that has begun holds with this fuel
abbrev pub thread_count : ℕ → Assignment → List SourceEvent → ℕ → ℕ → ℕ
thread_count fuel m R thread n = count_by_entry fuel m R thread n (entry m.typed R thread)
