-- What the registers of a thread refer to, by what the program holds that was asked by the answers of the thread's own
-- events.
use Rattle.std.specs.Prelude.{ℕ, ℤ, pos, ◌≡◌, ◌+◌, ◌⊎◌, ◌<◌, true, List, [], ◌∷◌, ◌++◌, map, get_or, reverse}
use Rattle.std.specs.Prelude.{slice_index}
use Rattle.sharc_tree.specs.declared.event.CellAt.{CellAt}
use Rattle.sharc_tree.specs.declared.event.SourceEvent.{SourceEvent}
use Rattle.sharc_mode.specs.Moded.{Assignment}
use Rattle.sharc_meaning.specs.{declared.given.GivenUp.GivenUp, declared.given.GivenUp.TheVariants.Replaced}
use Rattle.sharc_meaning.specs.{Events.events_of, Meaning.{Asked, asks}, Reference.number_of, References.refers}
use Rattle.sharc_meaning.specs.{Runs.{answers_of, by}, State.wants}
use Rattle.sharc_code.specs.{declared.code.Code.Code, declared.instr.Instr.TheVariants.{Lower, TestSole}}
use Rattle.sharc_code.specs.{declared.shape.Shape.Shape, Machine.{Machine, instr_at, ref}, Paced.paced_in}
use Rattle.sharc_code.specs.{Path.{begun, machine_after, CodePath}, Runs.{Turn, turns_of}}
use Rattle.sharc_code.specs.Whole.{CheckedRun, Erase, place_after}
use Rattle.sharc_compile.specs.{Consistent.{Elements, said_in, IsConsistent}, Correct.IsBeginning, Lowered.lowered_in}
use Rattle.sharc_compile.specs.{OfRuns.{elements_before, founds_of, told_in}}
use Rattle.sharc_invariant.specs.Words.{register_of}
use Rattle.sharc_guard.specs.{Correct.Resolved, Counted.{IsGivenAway, IsReleased}}
use Rattle.sharc_wants_laws.specs.{Emptying.{IsEmptying, is_emptying}, Wants.{BeginsWithStarted, BeginsWithStartedIn}}

-- ---- what a register has
-- the program holds a reference to the object of this number
abbrev pub IsAmong : List ℤ → ℕ → Type 0
IsAmong held n = (j : ℕ) × (number_of (get_or held j (pos 0)) ≡ n)

-- it is given up, after all that the code has lowered
pub record IsGivenUpLater (given : List GivenUp) (lowered : List ℕ) (n : ℕ) : Type 0 where
  pub before : List GivenUp
  pub later : List GivenUp
  pub is : given ≡ before ++ later
  pub lowers : (next : List ℕ) × Resolved before (lowered ++ next)
  pub released : IsReleased later n

-- the old value of a cell that the program has just written, which an instruction lowers at the thread's place, or at
-- the next one where the block of a freed object is linked
pub record IsOldValue (code : Code) (at : Machine) (given : List GivenUp) (lowered : List ℕ) (k : ℕ) : Type 0 where
  pub place : ℕ
  pub near : (place ≡ at.at.pc) ⊎ (place ≡ at.at.pc + 1)
  pub register : ℕ
  pub next : instr_at code place ≡ Lower register
  pub here : k ≡ at.at.refs + register
  pub cell : CellAt
  pub after : List GivenUp
  pub given_is : given ≡ Replaced cell ∷ after
  pub none : lowered ≡ []

-- of the object of number n: the program holds one, or has given one up that is not lowered yet, or it is such a value
abbrev pub IsAccounted : Code → Machine → List ℕ → Asked → ℕ → ℕ → Type 0
IsAccounted code at lowered a k n = IsAmong a.held n
    ⊎ (IsGivenUpLater a.given_up lowered n ⊎ IsOldValue code at a.given_up lowered k)

-- what is lowered is a first part of what is given up
pub record IsLowered (given : List GivenUp) (lowered : List ℕ) : Type 0 where
  pub before : List GivenUp
  pub later : List GivenUp
  pub is : given ≡ before ++ later
  pub lowers : (next : List ℕ) × Resolved before (lowered ++ next)

-- ---- by the place of a thread
-- Where the thread looks whether the reference in a register is the only one to its object, the program wants
-- something, and what a register refers to, it refers to by what it holds at the same place. What it wants to give or
-- to free is the object that is tested.
pub record IsTested (a : Asked) (at : Machine) (register : ℕ) : Type 0 where
  pub wanted : SourceEvent
  pub outcome : a.outcome ≡ wants wanted
  pub registers : (k n : ℕ) → slice_index at.refs k ≡ n → 0 < n → refers n (get_or a.held k (pos 0)) ≡ true
  pub gives : (v : ℤ) → IsGivenAway v wanted.act → number_of v ≡ ref at register

-- With some fuel a thread of the program asks for exactly these events, by their answers. What its registers refer to,
-- it then holds, or has given up since.
pub record IsHolding (m : Assignment) (code : Code) (f : ℕ) (argument : ℤ) (thread : ℕ) (told : List SourceEvent)
    (at : Machine) (lowered : List ℕ) : Type 0 where
  pub fuel : ℕ
  pub events : map (by thread) (asks m f argument (answers_of told) fuel).events ≡ told
  pub registers : (k n : ℕ) → register_of code at k ≡ n → 0 < n
      → IsAccounted code at lowered (asks m f argument (answers_of told) fuel) k n
  pub lowers : IsLowered (asks m f argument (answers_of told) fuel).given_up lowered
  pub tested : (register site : ℕ) → instr_at code at.at.pc ≡ TestSole register site
      → IsTested (asks m f argument (answers_of told) fuel) at register
  pub emptying : is_emptying at.own.stage ≡ true → IsEmptying code (asks m f argument (answers_of told) fuel) at

-- the thread begins with the Started of a function, and then holds what the function does
abbrev pub IsHoldingThere : Assignment → Code → (thread : ℕ) → Machine → (said : List SourceEvent) → List ℕ → Type 0
IsHoldingThere m code thread at said lowered =
    BeginsWithStarted m thread said (λ f argument told. IsHolding m code f argument thread told at lowered)

-- so it is of each path whose results are consistent, once it has begun
abbrev pub PathsHold : Assignment → Code → Type 0
PathsHold m code = (s : Shape) (thread : ℕ) (elements : ℕ → Elements) (founds : List ℕ) → CodePath code s thread founds
    → IsConsistent code s (begun code s thread) elements founds
    → let at = machine_after code s (begun code s thread) founds in
    let said = said_in code s (begun code s thread) elements founds in
    let lowered = lowered_in code s (begun code s thread) elements founds in
    let paced = paced_in code s (begun code s thread) founds in
    IsBeginning at said paced ⊎ IsHoldingThere m code thread at said lowered

-- ---- by the place of a run
-- what a thread has lowered since its last event
abbrev pub lowered_of : Code → Shape → List Turn → ℕ → List ℕ
lowered_of code s run thread =
    lowered_in code s (begun code s thread) (elements_before code s thread run) (founds_of (turns_of thread run))

abbrev pub IsHoldingIn : Assignment → Code → List SourceEvent → (thread : ℕ) → Machine → (lowered : List ℕ) → Type 0
IsHoldingIn m code R thread at lowered =
    BeginsWithStartedIn m R thread (λ f argument told. IsHolding m code f argument thread told at lowered)

-- of each thread of a checked run, by threads in any order, where the results of the paths of all are consistent
abbrev pub ThreadsHold : Assignment → Code → Type 0
ThreadsHold m code = (s : Shape) (run : List Turn) → CheckedRun code s run
    → ((thread : ℕ)
    → IsConsistent code s (begun code s thread) (elements_before code s thread run) (founds_of (turns_of thread run)))
    → (thread : ℕ) → let R = reverse (told_in (Erase code s run)) in
    (events_of thread R ≡ [])
    ⊎ IsHoldingIn m code R thread ((place_after code s run).threads thread) (lowered_of code s run thread)
