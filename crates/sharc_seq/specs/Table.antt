-- What a run by a chooser keeps between two turns.
use Rattle.std.specs.Prelude.{ℕ, ◌≡◌, false, List, reverse}
use Rattle.sharc_code.specs.{declared.code.Code.Code, declared.shape.Shape.Shape, Runs.{Turn, threads_of}}
use Rattle.sharc_code.specs.Whole.{place_after}
use Rattle.sharc_threads.specs.Ends.{Standing, is_enabled, AreStarted, EndIs}
use Rattle.sharc_seq.specs.{declared.table.Table.Table, declared.run.SeqRun.SeqRun, Run.AreChosen, Walk.StandsAt}

-- at this place is a run whose turns were chosen
pub record IsTable (answers : ℕ → ℕ → ℕ → Type 0) (code : Code) (s : Shape) (limit : ℕ) (table : Table) : Type 0 where
  pub turns : List Turn
  pub stands : StandsAt code s turns table.walk
  pub chosen : AreChosen answers code s limit turns
  pub schedule : table.schedule.items ≡ reverse (threads_of turns)

-- and no thread is enabled there
pub record IsOver (answers : ℕ → ℕ → ℕ → Type 0) (code : Code) (s : Shape) (limit : ℕ) (table : Table) : Type 0 where
  pub table_is : IsTable answers code s limit table
  pub over : (t : ℕ) → is_enabled code s limit (place_after code s table_is.turns) t ≡ false

-- an ended run, with the words and the threads of this place
pub record Ends (code : Code) (s : Shape) (g : Standing) (schedule : List ℕ) (run : SeqRun) : Type 0 where
  pub schedule_is : run.schedule.items ≡ schedule
  pub words : run.words.items ≡ g.words
  pub threads : AreStarted code s g run.threads.items
  pub end_is : EndIs code s g run.end
