-- Runs of which one chooser chooses each turn: who makes it, and where the run ends.
use Rattle.std.specs.Prelude.{ℕ, ◌≡◌, ◌<◌, false, List, [], ◌∷◌, length, filter, reverse, slice_index}
use Rattle.std.specs.List.{range_with_len}
use Rattle.sharc_code.specs.{declared.code.Code.Code, declared.shape.Shape.Shape, Runs.{Turn, threads_of}}
use Rattle.sharc_code.specs.Whole.{CheckedRun, place_after}
use Rattle.sharc_threads.specs.Ends.{Standing, is_enabled, AreStarted, EndIs}
use Rattle.sharc_seq.specs.declared.run.SeqRun.{SeqRun}

-- ---- whose turn is next
-- the threads that are enabled, in rising order
abbrev pub enabled : Code → Shape → ℕ → Standing → List ℕ
enabled code s limit g = filter (is_enabled code s limit g) (range_with_len 0 s.threads)

-- the chooser answered the place of this thread among these, for the turn of this number
pub record IsChosen (answers : ℕ → ℕ → ℕ → Type 0) (number : ℕ) (among : List ℕ) (thread : ℕ) : Type 0 where
  pub place : ℕ
  pub answered : answers number (length among) place
  pub within : place < length among
  pub is : thread ≡ slice_index among place

-- so it is of each turn of a run, the newest first, with the threads that were enabled before it
abbrev pub AreChosen : (ℕ → ℕ → ℕ → Type 0) → Code → Shape → ℕ → List Turn → Type 0
AreChosen answers code s limit [] = Unit {0}
AreChosen answers code s limit (turn ∷ earlier) =
    AreChosen answers code s limit earlier
    × IsChosen answers (length earlier) (enabled code s limit (place_after code s earlier)) turn.thread

-- ---- a whole run
-- a checked run whose turns were chosen, and which ends where no thread is enabled
pub record IsSeqRun (answers : ℕ → ℕ → ℕ → Type 0) (code : Code) (s : Shape) (limit : ℕ) (run : SeqRun) : Type 0 where
  pub turns : List Turn
  pub checked : CheckedRun code s turns
  pub chosen : AreChosen answers code s limit turns
  pub over : (t : ℕ) → is_enabled code s limit (place_after code s turns) t ≡ false
  pub schedule : run.schedule.items ≡ reverse (threads_of turns)
  pub words : run.words.items ≡ (place_after code s turns).words
  pub threads : AreStarted code s (place_after code s turns) run.threads.items
  pub end_is : EndIs code s (place_after code s turns) run.end
