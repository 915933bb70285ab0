-- Who starts the threads of a checked run of typed code.
use Rattle.std.specs.Prelude.{◌≡◌, ◌<◌, ◌⊎◌, ℕ, ℤ, pos, List, [], length}
use Rattle.sharc_tree.specs.{declared.event.Act.TheVariants.Started, declared.event.SourceEvent.SourceEvent}
use Rattle.sharc_code.specs.{declared.code.Code.Code, declared.instr.Instr.TheVariants.Spawn}
use Rattle.sharc_code.specs.{declared.instr.Register.Register, declared.shape.Shape.Shape, Layout.Fits}
use Rattle.sharc_code.specs.{Machine.{function_of, instr_at}, Runs.Turn, Whole.CheckedRun}
use Rattle.sharc_meaning.specs.{Events.{Stands, events_of}, Obeys.History, Runs.IsSpawned}
use Rattle.sharc_invariant.specs.{Types.Targets, Labels.Labels, Typed.IsWellTyped, State.IsSmall}
use Rattle.sharc_history_laws.specs.History.{history_of}

-- thread 0 has the code's first function, and its argument is 0
pub record IsOfMain (code : Code) (thread f : ℕ) (argument : ℤ) : Type 0 where
  pub first : thread ≡ 0
  pub main : f ≡ code.main
  pub nothing : argument ≡ pos 0

-- an instruction of the code spawns this function
abbrev pub IsSpawnedByCode : Code → ℕ → Type 0
IsSpawnedByCode code f =
    (pc : ℕ) × (to : ℕ) × (from : Register) × (site : ℕ) × (instr_at code pc ≡ Spawn to f from site)

-- a Started at the name of a function, which thread 0 has, or which an earlier Spawn gave to the thread with this
-- argument
pub record IsStartedBy (code : Code) (before : History) (e : SourceEvent) (argument : ℤ) : Type 0 where
  pub function : ℕ
  pub known : function < length code.functions.items
  pub site : e.site ≡ (function_of code function).site
  pub begins : (function ≡ code.main) ⊎ IsSpawnedByCode code function
  pub right : IsOfMain code e.thread function argument ⊎ IsSpawned before e.thread function argument

-- so is the first event of each thread
abbrev pub StartsAreSpawned : Type 0
StartsAreSpawned = (x : Targets) (code : Code) (s : Shape) (ls : Labels) → IsWellTyped x code ls → Fits code s
    → IsSmall code s → (run : List Turn) → CheckedRun code s run
    → (before : History) (e : SourceEvent) (after : History) → Stands (history_of code s run) before e after
    → events_of e.thread before ≡ []
    → (argument : ℤ) → e.act ≡ Started argument → IsStartedBy code before e argument
