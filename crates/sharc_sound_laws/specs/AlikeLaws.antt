-- What holds of codes that are alike.
use Rattle.std.specs.Prelude.{ℕ, ◌≡◌, false, List}
use Rattle.sharc_mode.specs.Moded.{Assignment}
use Rattle.sharc_code.specs.{declared.code.Code.Code, declared.shape.Shape.Shape, Runs.Turn}
use Rattle.sharc_code.specs.Whole.{CheckedRun, Erase, place_after}
use Rattle.sharc_ctype.specs.Resolved.{IsResolved}
use Rattle.sharc_run.specs.declared.run.Ran.{Ran}
use Rattle.sharc_replay.specs.Run.{IsScheduledRun}
use Rattle.sharc_schedule.specs.Schedule.{Stored}
use Rattle.sharc_seq.specs.Run.{AreChosen}
use Rattle.sharc_front_end.specs.Compiled.{IsCompiled}
use Rattle.sharc_threads.specs.Ends.{is_enabled}
use Rattle.sharc_sound_laws.specs.Alike.{AreAlike}

-- a run by a schedule of one is a run of the other, with the same text and outcome
abbrev pub RunsAreAlike : Type 0
RunsAreAlike = (a b : Code) → AreAlike a b → (s : Shape) (places : List (ℕ × ℕ)) (limit : ℕ) (ran : Ran)
    → IsScheduledRun a s places limit ran → IsScheduledRun b s places limit ran

-- these turns are such a run of the other, which tells the same source events
pub record TellsTheSame (a b : Code) (s : Shape) (places : List (ℕ × ℕ)) (limit : ℕ) (turns : List Turn) : Type 0 where
  pub checked : CheckedRun b s turns
  pub chosen : AreChosen (Stored places) b s limit turns
  pub over : (t : ℕ) → is_enabled b s limit (place_after b s turns) t ≡ false
  pub events : Erase a s turns ≡ Erase b s turns

-- so it is of each run by a schedule of one
abbrev pub HistoriesAreAlike : Type 0
HistoriesAreAlike = (a b : Code) → AreAlike a b → (s : Shape) (places : List (ℕ × ℕ)) (limit : ℕ) (turns : List Turn)
    → CheckedRun a s turns → AreChosen (Stored places) a s limit turns
    → ((t : ℕ) → is_enabled a s limit (place_after a s turns) t ≡ false) → TellsTheSame a b s places limit turns

-- All codes to which a typed program is compiled are alike.
abbrev pub CompiledAreAlike : Type 0
CompiledAreAlike = (m : Assignment) → IsResolved m.typed → (a b : Code) → IsCompiled m a → IsCompiled m b → AreAlike a b
