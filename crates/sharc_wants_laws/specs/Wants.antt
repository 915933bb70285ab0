-- What the source wants of a thread of its code, by the place of that: what it waits for, the access that it makes or
-- checks, and what it was refused.
use Rattle.std.specs.Prelude.{ℕ, ℤ, pos, ◌≡◌, ◌⊎◌, Bool, true, false, List, [], ◌∷◌, map, reverse, Some}
use Rattle.sharc_tree.specs.{declared.event.Act.Act, declared.event.CellAt.CellAt}
use Rattle.sharc_tree.specs.declared.event.SourceEvent.{SourceEvent}
use Rattle.sharc_tree.specs.declared.event.Act.TheVariants as acts
use Rattle.sharc_tree.specs.declared.event.CellMode.TheVariants as modes
use Rattle.sharc_tree.specs.declared.trap.Trap.TheVariants as traps
use Rattle.sharc_ctype.specs.Resolved.{function_at}
use Rattle.sharc_mode.specs.Moded.{Assignment}
use Rattle.sharc_meaning.specs.{Events.{Access, access_by, events_of}, Meaning.asks, Obeys.History}
use Rattle.sharc_meaning.specs.{Runs.{IsNamedAt, answers_of, by}, State.{Outcome, wants, ended, stopped, event_of}}
use Rattle.sharc_code.specs.{declared.code.Code.Code, declared.instr.Cell.Cell, declared.instr.Instr.Instr}
use Rattle.sharc_code.specs.declared.instr.Instr.TheVariants.{Lock, Join, CondWait, Load, Store, LoadRef, Exchange}
use Rattle.sharc_code.specs.declared.instr.Instr.TheVariants.{TakeCell, ChkRead, ChkWrite, ChkLock, ChkLockLoaded}
use Rattle.sharc_code.specs.{declared.shape.Shape.Shape, declared.state.TurnState.TheVariants.Ended}
use Rattle.sharc_code.specs.{Machine.{Machine, int, instr_at}, Paced.paced_in, Path.{begun, machine_after, CodePath}}
use Rattle.sharc_code.specs.{Runs.{Turn, turns_of}, Says.{cell_at, made_cell, mode_of, place_at}}
use Rattle.sharc_code.specs.Whole.{CheckedRun, Erase, place_after}
use Rattle.sharc_flat.specs.Correct.{MayStart}
use Rattle.sharc_compile.specs.{Consistent.{Elements, said_in, IsConsistent}, Correct.IsBeginning}
use Rattle.sharc_compile.specs.{OfRuns.{elements_before, founds_of, told_in}, Refused.WantsRefused}
use Rattle.sharc_guard.specs.Counted.{IsUnder}
use Rattle.sharc_compile_laws.specs.Threads.{TellsIn}

-- ---- by the instruction
-- the source wants this act at a site of the code
abbrev pub WantsAct : Code → Outcome → (site : ℕ) → Act → Type 0
WantsAct code o site act = o ≡ wants (event_of (place_at code site).site act (pos 0))

-- it wants this access there
abbrev pub WantsAccess : Code → Outcome → (site : ℕ) → Access → Type 0
WantsAccess code o site a = (act : Act) × WantsAct code o site act × (access_by act ≡ Some a)

-- it wants an access under this mutex there
abbrev pub WantsUnder : Code → Outcome → (site : ℕ) → CellAt → Type 0
WantsUnder code o site mutex = (act : Act) × WantsAct code o site act × IsUnder mutex act

-- or it is stopped there by X1, since the path of the mutex leads through NULL
abbrev pub StopsOrWantsUnder : Code → Outcome → (site : ℕ) → CellAt → Type 0
StopsOrWantsUnder code o site mutex = (o ≡ stopped traps.NullPointer (place_at code site).site)
    ⊎ WantsUnder code o site mutex

-- the access of a cell that is made at a site, in the mode of the site
abbrev pub access_at : Code → Machine → Cell → (site : ℕ) → (write : Bool) → Access
access_at code at c site write = record {
  cell = cell_at code at c;
  mode = mode_of code at (cell_at code at c) (place_at code site).mode;
  is_write = write;
}

-- the access of which a check of a dynamic cell is
abbrev pub access_tested : Code → Machine → Cell → (write : Bool) → Access
access_tested code at c write = record { cell = cell_at code at c; mode = modes.Dynamic; is_write = write }

-- What a thread that is at this instruction wants: the Lock, the Join or the Woken for which it waits, the access that
-- it makes, or the one that it checks, of this cell or under this mutex.
abbrev pub WantsBy : Code → Machine → Outcome → Instr → Type 0
WantsBy code at o (Lock c site) = WantsAct code o site (acts.Lock (cell_at code at c))
WantsBy code at o (Join r site) = WantsAct code o site (acts.Join (int at r))
WantsBy code at o (CondWait c site) = WantsAct code o site (acts.Woken (cell_at code at c))
WantsBy code at o (Load r c site) = WantsAccess code o site (access_at code at c site false)
WantsBy code at o (Store r c site) = WantsAccess code o site (access_at code at c site true)
WantsBy code at o (LoadRef c site) = WantsAccess code o site (access_at code at c site false)
WantsBy code at o (Exchange r c site) = WantsAccess code o site (access_at code at c site true)
WantsBy code at o (TakeCell r c site) = WantsAccess code o site (access_at code at c site true)
WantsBy code at o (ChkRead c site) = WantsAccess code o site (access_tested code at c false)
WantsBy code at o (ChkWrite c site) = WantsAccess code o site (access_tested code at c true)
WantsBy code at o (ChkLock c site) = StopsOrWantsUnder code o site (cell_at code at c)
WantsBy code at o (ChkLockLoaded site) = StopsOrWantsUnder code o site (made_cell at.pending 0)
WantsBy code at o _ = Unit {0}

-- ---- by the place of a thread
-- With some fuel a thread of the program asks for exactly these events, by their answers. Then it wants what the
-- instruction at the place of the code is about, also where the code was stopped there by a check; and it has ended
-- where the code has.
pub record IsWhere (m : Assignment) (code : Code) (thread f : ℕ) (argument : ℤ) (told : List SourceEvent)
    (at : Machine) : Type 0 where
  pub fuel : ℕ
  pub events : map (by thread) (asks m f argument (answers_of told) fuel).events ≡ told
  pub next : WantsBy code at (asks m f argument (answers_of told) fuel).outcome (instr_at code at.at.pc)
  pub refused : WantsRefused code at (asks m f argument (answers_of told) fuel)
  pub gone : at.at.state ≡ Ended → (asks m f argument (answers_of told) fuel).outcome ≡ ended

-- The thread begins with the Started of a function, at the name of that; and then this holds of the function, of its
-- argument and of the events after, if the function may be started.
pub record BeginsWithStarted (m : Assignment) (thread : ℕ) (said : List SourceEvent)
    (Then : ℕ → ℤ → List SourceEvent → Type 0) : Type 0 where
  pub function : ℕ
  pub argument : ℤ
  pub begins : SourceEvent
  pub after : List SourceEvent
  pub starts : said ≡ begins ∷ map (by thread) after
  pub own : begins.thread ≡ thread
  pub act : begins.act ≡ acts.Started argument
  pub answer : begins.answer ≡ pos 0
  pub site : IsNamedAt (function_at m.typed function) begins.site
  pub stands : MayStart m function → Then function argument (map (by thread) after)

-- and then is where the function is
abbrev pub IsThere : Assignment → Code → (thread : ℕ) → Machine → (said : List SourceEvent) → Type 0
IsThere m code thread at said =
    BeginsWithStarted m thread said (λ f argument told. IsWhere m code thread f argument told at)

-- so it is of each path whose results are consistent, once it has begun
abbrev pub PathsWant : Assignment → Code → Type 0
PathsWant m code = (s : Shape) (thread : ℕ) (elements : ℕ → Elements) (founds : List ℕ) → CodePath code s thread founds
    → IsConsistent code s (begun code s thread) elements founds
    → let at = machine_after code s (begun code s thread) founds in
    let said = said_in code s (begun code s thread) elements founds in
    let paced = paced_in code s (begun code s thread) founds in
    IsBeginning at said paced ⊎ IsThere m code thread at said

-- ---- by the place of a run
-- so it is of a thread of this history
pub record BeginsWithStartedIn (m : Assignment) (R : History) (thread : ℕ) (Then : ℕ → ℤ → List SourceEvent → Type 0)
    : Type 0 where
  pub tells : TellsIn m R thread
  pub stands : MayStart m tells.function → Then tells.function tells.argument (events_of thread tells.after)

-- the thread is where the source is that has asked for its events of this history
abbrev pub IsThereIn : Assignment → Code → History → (thread : ℕ) → Machine → Type 0
IsThereIn m code R thread at =
    BeginsWithStartedIn m R thread (λ f argument told. IsWhere m code thread f argument told at)

-- it has no event and is at the code's first instruction
pub record IsNotThere (R : History) (thread : ℕ) (at : Machine) : Type 0 where
  pub nothing : events_of thread R ≡ []
  pub first : at.at.pc ≡ 0

-- of each thread of a checked run, by threads in any order, where the results of the paths of all are consistent
abbrev pub ThreadsWant : Assignment → Code → Type 0
ThreadsWant m code = (s : Shape) (run : List Turn) → CheckedRun code s run
    → ((thread : ℕ)
    → IsConsistent code s (begun code s thread) (elements_before code s thread run) (founds_of (turns_of thread run)))
    → (thread : ℕ) → let R =
    reverse (told_in (Erase code s run)) in let at = (place_after code s run).threads thread in IsNotThere R thread at
    ⊎ IsThereIn m code R thread at
