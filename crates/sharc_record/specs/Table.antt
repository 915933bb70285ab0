-- What the proof alone needs: the table of a journal, and the parts of a history that its seats have.
use Rattle.std.specs.Prelude.{ℕ, ◌≡◌, ◌<◌, List, [], ◌∷◌, ◌++◌, length, map, slice_index, Some}
use Rattle.atomic_table.specs.{Seated.TableId, Table.Me}
use Rattle.sharc_word.specs.{declared.step.WordStep.WordStep, Words.words_after_step, Place.event_of}
use Rattle.sharc_record.specs.{declared.journal.Journal.Journal, declared.rule.Part.Part, declared.rule.View.View}
use Rattle.sharc_record.specs.{Rule.{IsAmong, Slot, having}, Shared.SeatView}

-- a table with two words and one slot
pub record IsJournalTable (id : TableId) : Type 0 where
  pub words_are : id.words ≡ 2
  pub slots_are : id.slots ≡ 1

-- a seat with one part of a history
abbrev pub seat_view : TableId → List Part → SeatView
seat_view id [] = record { id = id; count = 0; number = 0; events = [] }
seat_view id (p ∷ ps) = record { id = id; count = p.count; number = p.number; events = p.events }

-- the part of a history that a seat has
abbrev pub part_of : SeatView → Part
part_of seat = record { number = seat.number; count = seat.count; events = seat.events }

-- the part after a step
abbrev pub stepped : Part → WordStep → ℕ → Part
stepped p step found =
    record { number = p.number; count = p.count; events = p.events ++ event_of p.number step found ∷ [] }

-- the parts of all these seats are among these
abbrev pub HasAll : List SeatView → List Part → Type 0
HasAll [] parts = Unit {0}
HasAll (s ∷ ss) parts = IsAmong (part_of s) parts × HasAll ss parts

-- the seats of ports with these parts
abbrev pub seats_with : TableId → List Part → List SeatView
seats_with id parts = map (λ p. record { id = id; count = p.count; number = p.number; events = p.events }) parts

-- one journal became another by a step of this thread
pub record Made (old : Journal) (thread : ℕ) (step : WordStep) (found : ℕ) (now : Journal) : Type 0 where
  pub inside : step.word < length old.words
  pub found_is : found ≡ slice_index old.words step.word
  pub words_are : now.words ≡ words_after_step old.words step
  pub events_are : now.events.items ≡ old.events.items ++ event_of thread step found ∷ []

-- the seat has the turn, and has made its step on the journal that it found
pub record MadeStep (me : Me Slot View) : Type 0 where
  pub part : Part
  pub old : Journal
  pub now : Journal
  pub me_is : me ≡ having part old (Some now)
  pub step : WordStep
  pub found : ℕ
  pub made : Made old part.number step found now
