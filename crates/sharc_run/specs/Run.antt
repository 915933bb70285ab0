-- Whole runs of a code, with their text and outcome.
use Rattle.std.specs.Prelude.{ℕ, ◌≡◌, ◌≤◌, false, List}
use Rattle.sharc_code.specs.{declared.code.Code.Code, declared.shape.Shape.Shape, Runs.Turn}
use Rattle.sharc_code.specs.Whole.{CheckedRun, place_after}
use Rattle.sharc_cpu.specs.Thread.{ThreadView}
use Rattle.sharc_threads.specs.{declared.end.End.End, Ends.{Standing, is_enabled, AreStarted, EndIs}}
use Rattle.sharc_seq.specs.{Choice.seeded, Run.AreChosen}
use Rattle.sharc_run.specs.{RunText.IsRunText, declared.run.Ran.Ran, Outcome.HasOutcome}

-- the text and the outcome of a run that ended at this place: those of the threads that were started
pub record IsEnd (code : Code) (s : Shape) (limit : ℕ) (g : Standing) (ran : Ran) : Type 0 where
  pub threads : List ThreadView
  pub started : AreStarted code s g threads
  pub text : IsRunText code g.words threads ran.text.items
  pub outcome : HasOutcome code s limit g threads ran.outcome

-- a run of these turns ended where no thread may make a turn, with these words and started threads, and so
pub record HasEnded (code : Code) (s : Shape) (limit : ℕ) (words : List ℕ) (threads : List ThreadView) (end : End)
    (turns : List Turn) : Type 0 where
  pub over : (t : ℕ) → is_enabled code s limit (place_after code s turns) t ≡ false
  pub words_are : words ≡ (place_after code s turns).words
  pub started : AreStarted code s (place_after code s turns) threads
  pub end_is : EndIs code s (place_after code s turns) end

-- a thread makes the turn of each number among those that may make one whose place the seed draws
abbrev pub draws : ℕ → ℕ → ℕ → ℕ → Type 0
draws seed number count place = place ≡ seeded seed number count

-- a checked run whose turns the seed draws, and which ends where no thread may make a turn
pub record IsSeededRun (code : Code) (s : Shape) (seed limit : ℕ) (ran : Ran) : Type 0 where
  pub turns : List Turn
  pub checked : CheckedRun code s turns
  pub drawn : AreChosen (draws seed) code s limit turns
  pub over : (t : ℕ) → is_enabled code s limit (place_after code s turns) t ≡ false
  pub ends : IsEnd code s limit (place_after code s turns) ran

-- some checked run, in which no thread makes more events than this, and which ends where no thread may make a turn
pub record IsWorkersRun (code : Code) (s : Shape) (limit : ℕ) (ran : Ran) : Type 0 where
  pub turns : List Turn
  pub checked : CheckedRun code s turns
  pub few : (t : ℕ) → (place_after code s turns).made t ≤ limit
  pub over : (t : ℕ) → is_enabled code s limit (place_after code s turns) t ≡ false
  pub ends : IsEnd code s limit (place_after code s turns) ran
