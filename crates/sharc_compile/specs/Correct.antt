-- The paths of code are those of the guarded code that it was made of.
use Rattle.std.specs.Prelude.{ℕ, ℤ, pos, length, ◌≡◌, ◌+◌, ◌<◌, ◌≤◌, ◌⊎◌, List, [], ◌∷◌, map}
use Rattle.sharc_tree.specs.{declared.event.Act.TheVariants.Started, declared.event.SourceEvent.SourceEvent}
use Rattle.sharc_code.specs.{declared.code.Code.Code, declared.shape.Shape.Shape, declared.state.TurnState.TurnState}
use Rattle.sharc_code.specs.{declared.state.TurnState.TheVariants.Stopped, Machine.Machine}
use Rattle.sharc_code.specs.{Path.{begun, machine_after, CodePath}, Paced.paced_in}
use Rattle.sharc_guard.specs.{declared.guarded.Guarded.Guarded, Form.IsGuarded}
use Rattle.sharc_guard.specs.{Machine.{Program, function_at, event_of}, Path.{started, thread_after, IsPath, weight_in}}
use Rattle.sharc_compile.specs.{Generated.{IsGenerated, program_of}, Consistent.{Elements, said_in, IsConsistent}}
use Rattle.sharc_compile.specs.{Lowered.lowered_in, Related.{MatchesThread, spent_at}}

abbrev pub by : ℕ → SourceEvent → SourceEvent
by thread e = record e { thread = thread }

-- the Started of a thread of this function with this argument
abbrev pub begins : Program → ℕ → ℤ → SourceEvent
begins p f v = event_of (function_at p f).site (Started v) (pos 0)

-- a stop is one turn more
abbrev pub stop_turn : TurnState → ℕ
stop_turn Stopped = 1
stop_turn _ = 0

-- It has not begun yet: nothing is said, and one turn was made at most.
pub record IsBeginning (m : Machine) (said : List SourceEvent) (paced : ℕ) : Type 0 where
  pub pc_is : m.at.pc ≡ 0
  pub nothing : said ≡ []
  pub pace : paced ≤ 1

-- It has begun, with this function and argument: with some answers guarded code comes to the place where the code is,
-- by the same events, and the counted turns are as many as the statements that it made allow.
pub record HasCome (code : Code) (s : Shape) (p : Program) (T : Elements) (thread : ℕ) (m : Machine)
    (said : List SourceEvent) (lowered : List ℕ) (paced : ℕ) : Type 0 where
  pub function : ℕ
  pub known : function < length p.functions
  pub argument : ℤ
  pub answers : List ℤ
  pub path : IsPath p (started p function argument) answers
  pub stands : MatchesThread code s p T m (thread_after p (started p function argument) answers)
  pub events : said ≡ by thread (begins p function argument)
      ∷ map (by thread) (thread_after p (started p function argument) answers).events
  -- what it lowered since its last event, guarded code lowered
  pub lowers : lowered ≡ (thread_after p (started p function argument) answers).lowered
  pub pace : paced ≤ 2 + weight_in p (started p function argument) answers + spent_at m.own.stage + stop_turn m.at.state

-- for each path of the code of guarded code with consistent results
abbrev pub KeepsPaths : Guarded → Code → Type 0
KeepsPaths g code = (s : Shape) (thread : ℕ) (elements : ℕ → Elements) (founds : List ℕ) → CodePath code s thread founds
    → IsConsistent code s (begun code s thread) elements founds
    → let m = machine_after code s (begun code s thread) founds in
    let said = said_in code s (begun code s thread) elements founds in
    let lowered = lowered_in code s (begun code s thread) elements founds in
    let paced = paced_in code s (begun code s thread) founds in
    IsBeginning m said paced ⊎ HasCome code s (program_of g) (elements (length founds)) thread m said lowered paced

-- the theorem
abbrev pub GeneratedKeepsPaths : Type 0
GeneratedKeepsPaths = (g : Guarded) (code : Code) → IsGenerated g code → IsGuarded (program_of g) → KeepsPaths g code
