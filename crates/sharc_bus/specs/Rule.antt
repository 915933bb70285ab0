-- The rule of a bus, over the words and over what each seat knows: its parts of the history of this round.
use Rattle.std.specs.Prelude.{ℕ, zero, suc, ◌+◌, ◌%◌, ◌^◌, ◌≡◌, ◌<◌, ◌≤◌, ◌==◌, ◌⊎◌, List, [], ◌∷◌, ◌++◌, length}
use Rattle.std.specs.Prelude.{slice_index, bit_or, if◌then◌else◌}
use mathlib.Core.Option.{some}
use lib.ListN.{get_elem?}
use Rattle.atomic_table.specs.Table.{State, Me, Step}
use Rattle.sharc_word.specs.{declared.step.WordOp.WordOp, declared.step.WordOp.TheVariants.Or}
use Rattle.sharc_word.specs.{declared.step.WordStep.WordStep, declared.step.WordEvent.WordEvent, Words.words_after}
use Rattle.sharc_word.specs.{History.{LegalHistory, events_of}, Place.event_of}
use Rattle.sharc_bus.specs.declared.rule.Part.{Part}

-- the part is one of these
abbrev pub IsAmong : Part → List Part → Type 0
IsAmong part [] = ⊥
IsAmong part (p ∷ ps) = (part ≡ p) ⊎ IsAmong part ps

-- the parts of this many numbers from the first on, none of which has made a step in a round that began with these
-- words
abbrev pub unbegun : List ℕ → ℕ → ℕ → List Part
unbegun words first zero = []
unbegun words first (suc more) = record { number = first; words = words; events = [] } ∷ unbegun words (suc first) more

-- There is one legal history of this round, which leaves the words as they are. Each part that a seat has knows the
-- words at the beginning of the round and is that number's part of the history, and no other seat has a part of that
-- number. No number but these has made a step
pub record BusRule (opening : List ℕ) (numbers : ℕ) (state : State (Unit {0}) (List Part)) : Type 0 where
  pub base : List ℕ
  pub as_many : length base ≡ length opening
  pub history : List WordEvent
  pub legal : LegalHistory base history
  pub words_are : state.words ≡ words_after base history
  pub owner : ℕ → ℕ
  pub parts_are : (seat : ℕ) (parts : List Part) (part : Part) → get_elem? state.views seat ≡ some parts
      → IsAmong part parts
      → (part.events ≡ events_of part.number history) × (owner part.number ≡ seat) × (part.number < numbers)
      × (part.words ≡ base)
  pub no_others : (number : ℕ) → numbers ≤ number → events_of number history ≡ []

-- the parts after a step of the first
abbrev pub with_step : List Part → WordStep → ℕ → List Part
with_step [] step found = []
with_step (p ∷ ps) step found =
    record { number = p.number; words = p.words; events = p.events ++ event_of p.number step found ∷ [] } ∷ ps

-- a step of this operation reports to its seat that its event was appended, with the word found as its result
abbrev pub Appends : (ℕ → ℕ → WordOp) → Step (Unit {0}) → Me (Unit {0}) (List Part) → ℕ → Me (Unit {0}) (List Part)
    → Type 0
Appends op step before found after =
    after ≡ (with_step before.0 record { word = step.word; op = op step.first step.second } found, before.1)

-- ---- an Or of bits that stand
-- the bit of a port in a word of 64: the one behind the lowest for port 0, and so on
abbrev pub own_bit : ℕ → ℕ
own_bit number = 2 ^ suc number % 2 ^ 64

-- it and the lowest
abbrev pub own_bits : ℕ → ℕ
own_bits number = (own_bit number + 1) % 2 ^ 64

abbrev pub first_number : List Part → ℕ
first_number [] = 0
first_number (p ∷ ps) = p.number

-- a load reports to its seat that an Or of its bits was appended where the word found has them, and else that nothing
-- was
abbrev pub AppendsStanding : (ℕ → ℕ) → Step (Unit {0}) → Me (Unit {0}) (List Part) → ℕ → Me (Unit {0}) (List Part)
    → Type 0
AppendsStanding bits step before found after =
    after ≡ (if bit_or found (bits (first_number before.0)) == found then with_step before.0 record { word = step.word; op = Or (bits (first_number before.0)) } found else before.0, before.1)

-- ---- between two rounds
-- the words at the beginning of the round, of which parts know
abbrev pub words_known : List Part → List ℕ
words_known [] = []
words_known (p ∷ ps) = p.words

-- These parts are those of one legal history from the words of which they know, and no other number has a part of it.
-- The new ones know of the words that it leaves, and none of them has begun
pub record Settled (parts new : List Part) : Type 0 where
  pub history : List WordEvent
  pub now : List ℕ
  pub legal : LegalHistory (words_known parts) history
  pub parts_are : (part : Part) → IsAmong part parts → part.events ≡ events_of part.number history
  pub no_others : (number : ℕ) → length parts ≤ number → events_of number history ≡ []
  pub now_is : now ≡ words_after (words_known parts) history
  pub new_is : new ≡ unbegun now 0 (length parts)

abbrev pub SettlesTo : Step (Unit {0}) → Me (Unit {0}) (List Part) → ℕ → Me (Unit {0}) (List Part) → Type 0
SettlesTo step before found after = Settled before.0 after.0 × (after.1 ≡ before.1)

-- a look finds the word of which the parts know, and changes nothing
abbrev pub Finds : Step (Unit {0}) → Me (Unit {0}) (List Part) → ℕ → Me (Unit {0}) (List Part) → Type 0
Finds step before found after = (after ≡ before) × (found ≡ slice_index (words_known before.0) step.word)
