-- What source events are about: cells, mutexes, objects and threads; and which of a list of events is the last of its
-- kind.
use Rattle.std.specs.Prelude.{◌≡◌, ℕ, ◌==◌, ◌/◌, Bool, true, false, ◌&&◌, ◌||◌, List, [], ◌∷◌, ◌++◌, filter, find}
use Rattle.std.specs.Prelude.{reverse, Option, Some, None, if◌then◌else◌}
use Rattle.std.specs.List.{list_any}
use Rattle.sharc_tree.specs.declared.event.Act.{Act}
use Rattle.sharc_tree.specs.declared.event.Act.TheVariants.{Read, Write, New, Take, Give, Freed, Lock, Unlock}
use Rattle.sharc_tree.specs.{declared.event.CellAt.CellAt, declared.event.CellMode.CellMode}
use Rattle.sharc_tree.specs.{declared.event.Object.Object, declared.event.Object.TheVariants.{Global, Made}}
use Rattle.sharc_tree.specs.{declared.event.SourceEvent.SourceEvent, declared.event.Taken.TheVariants.Cell}
use Rattle.sharc_meaning.specs.Reference.{number_of}

-- ---- objects and cells

abbrev pub same_object : Object → Object → Bool
same_object (Global g) (Global h) = g == h
same_object (Made g) (Made h) = g == h
same_object _ _ = false

abbrev pub same_cell : CellAt → CellAt → Bool
same_cell a b = same_object a.object b.object && a.cell == b.cell

-- a granule has two cells
abbrev pub granule_of : CellAt → ℕ
granule_of c = c.cell / 2

-- ---- accesses: a Read, a Write and a Take of a cell

pub record Access : Type 0 where
  pub cell : CellAt
  pub mode : CellMode
  pub is_write : Bool

abbrev pub access_by : Act → Option Access
access_by (Read c mode) = Some (record { cell = c; mode = mode; is_write = false })
access_by (Write c mode v) = Some (record { cell = c; mode = mode; is_write = true })
access_by (Take (Cell c mode) kind) = Some (record { cell = c; mode = mode; is_write = true })
access_by _ = None

-- ---- objects that are made, given and freed

-- the object that the event makes, where its answer is a reference
abbrev pub made_by : SourceEvent → Act → Option ℕ
made_by e (New cells elements mode) = Some (number_of e.answer)
made_by e _ = None

abbrev pub given_by : Act → Option ℕ
given_by (Give r mode) = Some (number_of r)
given_by _ = None

abbrev pub freed_by : Act → Option ℕ
freed_by (Freed r) = Some (number_of r)
freed_by _ = None

abbrev pub is_number : ℕ → Option ℕ → Bool
is_number n None = false
is_number n (Some m) = n == m

abbrev pub makes : Object → SourceEvent → Bool
makes (Global g) e = false
makes (Made n) e = is_number n (made_by e e.act)

abbrev pub gives : Object → SourceEvent → Bool
gives (Global g) e = false
gives (Made n) e = is_number n (given_by e.act)

abbrev pub frees : Object → SourceEvent → Bool
frees (Global g) e = false
frees (Made n) e = is_number n (freed_by e.act)

-- a New or a Give of the object: from here on it has its mode, and its owner
abbrev pub begins : Object → SourceEvent → Bool
begins o e = makes o e || gives o e

-- ---- mutexes

abbrev pub locked_by : Act → Option CellAt
locked_by (Lock c) = Some c
locked_by _ = None

abbrev pub unlocked_by : Act → Option CellAt
unlocked_by (Unlock c) = Some c
unlocked_by _ = None

abbrev pub is_cell : CellAt → Option CellAt → Bool
is_cell c None = false
is_cell c (Some d) = same_cell c d

abbrev pub locks : CellAt → SourceEvent → Bool
locks c e = is_cell c (locked_by e.act)

abbrev pub unlocks : CellAt → SourceEvent → Bool
unlocks c e = is_cell c (unlocked_by e.act)

-- ---- lists of events

abbrev pub is_of : ℕ → SourceEvent → Bool
is_of thread e = e.thread == thread

abbrev pub events_of : ℕ → List SourceEvent → List SourceEvent
events_of thread = filter (is_of thread)

-- this event is in the list, with these before it and those after it
abbrev pub Stands : List SourceEvent → List SourceEvent → SourceEvent → List SourceEvent → Type 0
Stands R before e after = R ≡ before ++ e ∷ after

-- the last of them that meets the test
abbrev pub latest : (SourceEvent → Bool) → List SourceEvent → Option SourceEvent
latest test events = find test (reverse events)

abbrev pub unless_unlocked : List SourceEvent → Option CellAt → List CellAt → List CellAt
unless_unlocked later None held = held
unless_unlocked later (Some c) held = if list_any (unlocks c) later then held else c ∷ held

-- the mutexes that a thread holds after these events of its own: those of each Lock that has no later Unlock
abbrev pub held_mutexes : List SourceEvent → List CellAt
held_mutexes [] = []
held_mutexes (e ∷ later) = unless_unlocked later (locked_by e.act) (held_mutexes later)

abbrev pub holds_mutex : List SourceEvent → CellAt → Bool
holds_mutex own c = list_any (same_cell c) (held_mutexes own)
