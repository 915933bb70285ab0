-- The last event of a list that meets a test, or is about a topic, with its place.
use Rattle.std.specs.Prelude.{ℕ, ◌+◌, Bool, true, nat_le, List, [], ◌∷◌, Option, Some, None, if◌then◌else◌}
use Rattle.sharc_tree.specs.{declared.event.Object.Object, declared.event.Object.TheVariants.{Global, Made}}
use Rattle.sharc_tree.specs.declared.event.SourceEvent.{SourceEvent}
use Rattle.sharc_judge.specs.{declared.table.Noted.Noted, declared.topics.Topic.Topic, Topics.is_about}
use Rattle.sharc_judge.specs.declared.topics.Topic.TheVariants as topic

-- with this one before them, where their places begin with n
abbrev pub latest_from : (SourceEvent → Bool) → ℕ → Option Noted → List SourceEvent → Option Noted
latest_from test n found [] = found
latest_from test n found (e ∷ rest) =
    latest_from test (n + 1) (if test e then Some (record { place = n; event = e }) else found) rest

abbrev pub latest_at : (SourceEvent → Bool) → List SourceEvent → Option Noted
latest_at test = latest_from test 0 None

abbrev pub latest_about : Topic → List SourceEvent → Option Noted
latest_about topic = latest_at (is_about topic)

-- the place is not before that of the event, if there is one
abbrev pub is_behind : ℕ → Option Noted → Bool
is_behind place None = true
is_behind place (Some noted) = nat_le noted.place place

-- ---- the events of an object: a global has none

-- the last that made it
abbrev pub last_make : Object → List SourceEvent → Option Noted
last_make (Global g) R = None
last_make (Made n) R = latest_about (topic.Make n) R

-- the last that made or gave it
abbrev pub last_begin : Object → List SourceEvent → Option Noted
last_begin (Global g) R = None
last_begin (Made n) R = latest_about (topic.Begin n) R

-- the last that made, gave or freed it
abbrev pub last_period : Object → List SourceEvent → Option Noted
last_period (Global g) R = None
last_period (Made n) R = latest_about (topic.Period n) R
