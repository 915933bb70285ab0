-- The runs of a journal.
use Rattle.std.specs.Prelude.{ℕ, ◌≡◌, ◌≤◌, false, List}
use Rattle.sharc_word.specs.declared.step.WordEvent.{WordEvent}
use Rattle.sharc_code.specs.{declared.code.Code.Code, declared.shape.Shape.Shape, Runs.{Turn, word_events}}
use Rattle.sharc_code.specs.Whole.{CheckedRun, place_after}
use Rattle.sharc_threads.specs.Ends.{is_enabled}

-- a checked run whose word events these are, in which no thread makes more events than this, and which ends where no
-- thread is enabled
pub record IsJournalOf (code : Code) (s : Shape) (limit : ℕ) (journal : List WordEvent)
    (turns : List Turn) : Type 0 where
  pub checked : CheckedRun code s turns
  pub few : (t : ℕ) → (place_after code s turns).made t ≤ limit
  pub over : (t : ℕ) → is_enabled code s limit (place_after code s turns) t ≡ false
  pub events : word_events turns ≡ journal
