-- A table of notes by granule and kind, with the granules in the order of their first notes.
use Rattle.std.specs.Prelude.{◌≡◌, ◌≢◌, ℕ, ◌^◌, ◌<◌, ◌≤◌, ◌==◌, ◌++◌, [], ◌∷◌, Bool, true, List, Option, Some, None}
use Rattle.std.specs.Prelude.{length, slice_index_or, Contains, AllPairs, count_by, if◌then◌else◌}
use Rattle.sharc_heap.specs.{declared.shadow_word.Kind.Kind, declared.access_table.Note.Note}
use Rattle.sharc_heap.specs.{declared.access_table.GranuleNotes.GranuleNotes, Notes.{blank, of_kind, has_note}}

-- what is noted of each granule, and which granules were noted, in the order of their first notes
pub record Accesses : Type 0 where
  pub notes : List GranuleNotes
  pub order : List ℕ

-- the last note of a granule and kind
abbrev pub note_of : Accesses → ℕ → Kind → Option Note
note_of table granule kind = of_kind kind (slice_index_or table.notes granule blank)

-- there is a note of the granule
abbrev pub is_noted : List GranuleNotes → ℕ → Bool
is_noted notes granule = has_note (slice_index_or notes granule blank)

-- the site of a note that was made in this epoch
abbrev pub site_at : Option Note → ℕ → Option ℕ
site_at None epoch = None
site_at (Some note) epoch = if note.epoch == epoch then Some note.site else None

-- the granule and kind have this note, everything else stays, and a granule with no earlier note comes last in the
-- order
pub record NotesAccess (old new : Accesses) (granule : ℕ) (kind : Kind) (note : Note) : Type 0 where
  pub at : note_of new granule kind ≡ Some note
  pub other_kind : (k : Kind) → k ≢ kind → note_of new granule k ≡ note_of old granule k
  pub other_granules : (g : ℕ) (k : Kind) → g ≢ granule → note_of new g k ≡ note_of old g k
  pub granules : length new.notes ≡ length old.notes
  pub order : new.order ≡ (if is_noted old.notes granule then old.order else old.order ++ granule ∷ [])

-- the order has the granules that were noted, each once
pub record ListsNoted (table : Accesses) : Type 0 where
  pub all : (g : ℕ) → is_noted table.notes g ≡ true → Contains table.order g
  pub only : (g : ℕ) → Contains table.order g → is_noted table.notes g ≡ true
  pub once : AllPairs (λ a b. a ≢ b) table.order

-- what the parts of a table keep: the order lists what is noted, and there is room for every granule in it
pub record IsTable (notes : List GranuleNotes) (order : List ℕ) (room : ℕ) : Type 0 where
  pub lists : ListsNoted record { notes = notes; order = order }
  pub counted : length order ≡ count_by has_note notes
  pub small : length notes < 2 ^ 32
  pub room_for_all : length notes ≤ room
