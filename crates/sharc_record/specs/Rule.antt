-- The rule of a journal's table, over its two words, its slot, and what each seat knows.
use Rattle.std.specs.Prelude.{ℕ, zero, suc, ◌≡◌, ◌≢◌, ◌<◌, ◌≤◌, ◌+◌, ◌%◌, ◌^◌, ◌⊎◌, List, [], ◌∷◌, ◌++◌, length, take}
use Rattle.std.specs.Prelude.{drop, Option, Some}
use mathlib.Core.Option.{some, none}
use lib.ListN.{get_elem?}
use Rattle.atomic_table.specs.Table.{State, Me}
use Rattle.sharc_word.specs.{declared.step.WordEvent.WordEvent, Words.words_after, History.{LegalHistory, events_of}}
use Rattle.sharc_record.specs.{declared.journal.Journal.Journal, declared.rule.Part.Part, declared.rule.Turn.Turn}
use Rattle.sharc_record.specs.{declared.rule.Turn.TheVariants.{Idle, Drawn, Has}, declared.rule.View.View}

abbrev pub Slot : Type 0
Slot = Option Journal

-- ---- what seats know
-- the part is one of these
abbrev pub IsAmong : Part → List Part → Type 0
IsAmong part [] = ⊥
IsAmong part (p ∷ ps) = (part ≡ p) ⊎ IsAmong part ps

-- the parts of this many ports from the first number on, none of which has made a step
abbrev pub unbegun : ℕ → ℕ → ℕ → List Part
unbegun count first zero = []
unbegun count first (suc more) = record { number = first; count = count; events = [] } ∷ unbegun count (suc first) more

abbrev pub unbegun_view : Journal → ℕ → View
unbegun_view opened ports = record { parts = unbegun (length opened.words) 0 ports; turn = Idle }

abbrev pub first_of : View → View
first_of v = record { parts = take 1 v.parts; turn = v.turn }

abbrev pub others_of : View → View
others_of v = record { parts = drop 1 v.parts; turn = Idle }

abbrev pub joined : View → View → View
joined v w = record { parts = v.parts ++ w.parts; turn = v.turn }

abbrev pub spent_view : View
spent_view = record { parts = []; turn = Idle }

-- a seat with one part, and no ticket
abbrev pub idle : Part → Me Slot View
idle part = (record { parts = part ∷ []; turn = Idle }, [])

-- one with a ticket
abbrev pub waiting : Part → ℕ → Me Slot View
waiting part ticket = (record { parts = part ∷ []; turn = Drawn ticket }, [])

-- one that has the turn: it found this journal, and its slot now has that
abbrev pub having : Part → Journal → Slot → Me Slot View
having part journal now = (record { parts = part ∷ []; turn = Has journal }, (0, now) ∷ [])

-- ---- what steps make of them
abbrev pub drawn : Me Slot View → ℕ → Me Slot View
drawn me ticket = (record { parts = me.0.parts; turn = Drawn ticket }, me.1)

-- its ticket is not served, or it is, and then it has the turn and the slot with a journal of as many words as its
-- parts name
abbrev pub LookedAt : Turn → Me Slot View → ℕ → Me Slot View → Type 0
LookedAt Idle before found after = Unit {0}
LookedAt (Drawn ticket) before found after =
    ((found ≢ ticket) × (after ≡ before))
    ⊎ ((found ≡ ticket) × ((journal : Journal)
    × ((part : Part) → IsAmong part before.0.parts → length journal.words ≡ part.count)
    × (after ≡ (record { parts = before.0.parts; turn = Has journal }, (0, Some journal) ∷ before.1))))
LookedAt (Has journal) before found after = Unit {0}

abbrev pub Looked : Me Slot View → ℕ → Me Slot View → Type 0
Looked before found after = LookedAt before.0.turn before found after

-- the first part with these events more
abbrev pub with_events : List Part → List WordEvent → List Part
with_events [] events = []
with_events (p ∷ ps) events = record { number = p.number; count = p.count; events = p.events ++ events } ∷ ps

-- the events that the journal in the slot has more than the one that was found
abbrev pub gained : Turn → List (ℕ × Slot) → List WordEvent
gained (Has old) ((k, Some new) ∷ more) = drop (length old.events.items) new.events.items
gained _ _ = []

abbrev pub given_up : List (ℕ × Slot) → List (ℕ × Slot)
given_up [] = []
given_up (x ∷ xs) = xs

abbrev pub passed : Me Slot View → Me Slot View
passed me = (record { parts = with_events me.0.parts (gained me.0.turn me.1); turn = Idle }, given_up me.1)

-- ---- the rule
-- the journal is that which these events make of the opened one
pub record IsRight (opened : Journal) (history : List WordEvent) (journal : Journal) : Type 0 where
  pub words_are : journal.words ≡ words_after opened.words history
  pub events_are : journal.events.items ≡ opened.events.items ++ history

-- the number is not one of these, and each of these is there once
abbrev pub IsNew : ℕ → List ℕ → Type 0
IsNew n [] = Unit {0}
IsNew n (m ∷ ms) = (n ≢ m) × IsNew n ms

abbrev pub AreNew : List ℕ → Type 0
AreNew [] = Unit {0}
AreNew (m ∷ ms) = IsNew m ms × AreNew ms

abbrev pub AreBelow : ℕ → List ℕ → Type 0
AreBelow n [] = Unit {0}
AreBelow n (m ∷ ms) = (m < n) × AreBelow n ms

-- a seat without a ticket has no port that is in the queue. One with a ticket has one port, and its ticket shows where
-- that is. One with the turn has the first port of the queue, and keeps the journal that it found, which is right,
-- while the slot is away
abbrev pub TurnIs : Journal → List WordEvent → ℕ → List ℕ → List (mathlib.Core.Option.Option Slot) → List Part → Turn
    → Type 0
TurnIs opened history served queue homes parts Idle = (part : Part) → IsAmong part parts → IsNew part.number queue
TurnIs opened history served queue homes parts (Drawn ticket) =
    (part : Part) × (parts ≡ part ∷ [])
    × ((place : ℕ) × (get_elem? queue place ≡ some part.number) × (ticket ≡ (served + place) % 2 ^ 64))
TurnIs opened history served queue homes parts (Has journal) =
    (part : Part) × (parts ≡ part ∷ []) × (get_elem? queue 0 ≡ some part.number) × IsRight opened history journal
    × (homes ≡ none ∷ [])

-- the journal is in its slot and is right, or some port has the turn
abbrev pub JournalStands : Journal → List WordEvent → State Slot View → Type 0
JournalStands opened history state =
    ((journal : Journal) × (state.homes ≡ some (Some journal) ∷ []) × IsRight opened history journal)
    ⊎ ((seat : ℕ) × (v : View) × (journal : Journal) × (get_elem? state.views seat ≡ some v) × (v.turn ≡ Has journal))

-- what holds of a part of a seat
abbrev pub PartIs : Journal → ℕ → List WordEvent → (ℕ → ℕ) → ℕ → Part → Type 0
PartIs opened ports history owner seat part =
    (part.events ≡ events_of part.number history) × (owner part.number ≡ seat) × (part.number < ports)
    × (part.count ≡ length opened.words)

-- There is one legal history of this round. Each part that a seat has is that port's part of it, and no other seat has
-- a part of that port. No other port has made a step. The ports with tickets are in a queue, in the order in which they
-- drew them: the first word counts the tickets drawn, the second those served
pub record JournalRule (opened : Journal) (ports : ℕ) (state : State Slot View) : Type 0 where
  pub history : List WordEvent
  pub legal : LegalHistory opened.words history
  pub owner : ℕ → ℕ
  pub parts_are : (seat : ℕ) (v : View) (part : Part) → get_elem? state.views seat ≡ some v → IsAmong part v.parts
      → PartIs opened ports history owner seat part
  pub no_others : (number : ℕ) → ports ≤ number → events_of number history ≡ []
  pub served : ℕ
  pub queue : List ℕ
  pub words_are : state.words ≡ (served + length queue) % 2 ^ 64 ∷ served % 2 ^ 64 ∷ []
  pub once : AreNew queue
  pub few : AreBelow ports queue
  pub bound : ports < 2 ^ 64
  pub turns_are : (seat : ℕ) (v : View) → get_elem? state.views seat ≡ some v
      → TurnIs opened history served queue state.homes v.parts v.turn
  pub stands : JournalStands opened history state

-- at most one port has the turn
abbrev pub OneHasTheTurn : Type 0
OneHasTheTurn = (opened : Journal) (ports : ℕ) (state : State Slot View) → JournalRule opened ports state
    → (one other : ℕ) (v w : View) (a b : Journal) → get_elem? state.views one ≡ some v → v.turn ≡ Has a
    → get_elem? state.views other ≡ some w → w.turn ≡ Has b → one ≡ other
