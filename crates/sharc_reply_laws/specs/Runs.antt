-- What every checked run of the code that is built of a source tells of that source: one record of one list of turns.
use Rattle.std.specs.Prelude.{◌≡◌, ℕ, Bool, List, ◌∷◌, ◌++◌, Some}
use Rattle.sharc_heap.specs.declared.shadow_word.Kind.{Kind}
use Rattle.sharc_mode.specs.Moded.{Assignment}
use Rattle.sharc_meaning.specs.{Obeys.{AlwaysObeys, Obeys, until_return}, References.{Holder, References, in_thread}}
use Rattle.sharc_meaning.specs.Runs.{SourceRun}
use Rattle.sharc_code.specs.{declared.code.Code.Code, declared.shape.Shape.Shape, declared.state.Print.Print}
use Rattle.sharc_code.specs.{declared.state.Stop.Stop, Layout.Fits, Runs.Turn, Whole.{CheckedRun, Stuck, place_after}}
use Rattle.sharc_cpu.specs.Thread.{ThreadView}
use Rattle.sharc_threads.specs.Ends.{AreStarted}
use Rattle.sharc_run.specs.RunText.{AreInOrder}
use Rattle.sharc_reply_laws.specs.{Prints.ArePrintsOf, Reports.ReportTells, Threads.ThreadTells}
use Rattle.sharc_compile.specs.Refused.{IsReport}
use Rattle.sharc_invariant.specs.{Labels.Labels, Typed.IsWellTyped}
use Rattle.sharc_history_laws.specs.{Conflicts.IsCheck, Followed.IsOfAccess, History.history_of}
use Rattle.sharc_accepted_laws.specs.Targets.{targets_of}
use Rattle.sharc_wants_laws.specs.Alone.{Passes, tested_object}
use Rattle.sharc_sound_laws.specs.{StandStands.PlaceStands, Deadlock.IsDeadlock, Obeying.NoAccessReport}
use Rattle.sharc_build.specs.{declared.building.Built.Built, Built.IsBuilt}

-- The turns, the last one first, are of threads in any order, of the code of this program, which is typed by these
-- labels.
pub record RunTells (m : Assignment) (code : Code) (s : Shape) (ls : Labels) (run : List Turn) : Type 0 where
  -- its events are a run of the source without checks, and keep the rules of the modes
  pub source : SourceRun m (history_of code s run)
  pub obeys : Obeys (history_of code s run) until_return
  -- what its threads print are the Print events of that source run, in the order of these
  pub prints : (threads : List ThreadView) → AreStarted code s (place_after code s run) threads
      → (prints : List Print) → AreInOrder threads prints → ArePrintsOf (history_of code s run) prints
  -- each thread is where the source is by the thread's events, is over as the source is, and keeps the pace
  pub threads : (thread : ℕ) → ThreadTells m code s run thread
  -- a thread that has a stop was stopped; and each report A1 to A4 shows its cause, and is about what the source wants
  -- next
  pub reports : (threads : List ThreadView) → AreStarted code s (place_after code s run) threads → (t : ℕ) (stop : Stop)
      → ((place_after code s run).threads t).own.stop ≡ Some stop → IsReport stop
      → ReportTells m code s ls run threads t stop
  -- where every run of the source obeys there is none of A1 to A3
  pub unreported : AlwaysObeys m → NoAccessReport code s run
  -- where it is stuck the source is in a deadlock
  pub deadlock : Stuck code s run → IsDeadlock m code s run
  -- where a cast or a `free` passed its test, by the events up to there the reference that it took is the only one to
  -- its object
  pub sole : (later : List Turn) (test : Turn) (earlier : List Turn) → run ≡ later ++ test ∷ earlier
      → (register : ℕ) → Passes code s test earlier register
      → (holder : Holder) → References m (history_of code s earlier) (tested_object code s test earlier register) holder
      → holder ≡ in_thread test.thread 0
  -- at its end and at each place before, the counts, the bits of the shadow words and the windows are as the machine's
  -- invariant says
  pub places : (later earlier : List Turn) → run ≡ later ++ earlier → PlaceStands (targets_of m) code s ls earlier
  -- each check is one of the access that follows it, where it passed
  pub checks : (later : List Turn) (check : Turn) (earlier : List Turn) → run ≡ later ++ check ∷ earlier
      → (j : ℕ) (kind : Kind) (granule site : ℕ) (passed : Bool)
      → IsCheck code s earlier check j kind granule site passed → IsOfAccess code s later check earlier j site passed

-- ---- the law
-- the code is typed by some labels, and each of its checked runs, with each shape that fits it, tells this
pub record CodeTells (m : Assignment) (code : Code) : Type 0 where
  pub ls : Labels
  pub typed : IsWellTyped (targets_of m) code ls
  pub runs : (s : Shape) → Fits code s → (run : List Turn) → CheckedRun code s run → RunTells m code s ls run

-- nothing is asked beside that the code is built of the source
abbrev pub BuiltRunsTell : Type 0
BuiltRunsTell = (source : List ℕ) (built : Built) → IsBuilt source built → CodeTells built.checked built.code
