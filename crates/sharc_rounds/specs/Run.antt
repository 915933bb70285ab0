-- Runs that workers make in rounds, and how they end.
use Rattle.std.specs.Prelude.{ℕ, ◌≡◌, ◌≤◌, false, List}
use Rattle.sharc_code.specs.{declared.code.Code.Code, declared.shape.Shape.Shape, Runs.Turn}
use Rattle.sharc_code.specs.Whole.{CheckedRun, place_after}
use Rattle.sharc_threads.specs.Ends.{is_enabled, AreStarted, EndIs}
use Rattle.sharc_rounds.specs.declared.run.RoundsRun.{RoundsRun}

-- a checked run, in which no thread makes more events than this, and which ends where no thread is enabled
pub record IsRoundsRun (code : Code) (s : Shape) (limit : ℕ) (run : RoundsRun) : Type 0 where
  pub turns : List Turn
  pub checked : CheckedRun code s turns
  pub few : (t : ℕ) → (place_after code s turns).made t ≤ limit
  pub over : (t : ℕ) → is_enabled code s limit (place_after code s turns) t ≡ false
  pub words : run.words.items ≡ (place_after code s turns).words
  pub threads : AreStarted code s (place_after code s turns) run.threads.items
  pub end_is : EndIs code s (place_after code s turns) run.end
