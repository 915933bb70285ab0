-- What stands of every checked run of the code of an accepted program, where that code is typed: of its threads, of
-- each place that it comes to, and of what it reports.
use Rattle.std.specs.Prelude.{◌≡◌, ◌⊎◌, ℕ, Bool, List, [], ◌∷◌, ◌++◌, Some, reverse}
use Rattle.sharc_tree.specs.declared.event.SourceEvent.{SourceEvent}
use Rattle.sharc_heap.specs.declared.shadow_word.Kind.{Kind}
use Rattle.sharc_mode.specs.Moded.{Assignment}
use Rattle.sharc_meaning.specs.{Events.access_by, Obeys.{Obeys, Until}}
use Rattle.sharc_code.specs.{declared.code.Code.Code, declared.shape.Shape.Shape, declared.state.ConflictAt.ConflictAt}
use Rattle.sharc_code.specs.{declared.state.Stop.TheVariants.{Conflict, NoLock, NotSole}, Layout.Fits, Paced.paced_in}
use Rattle.sharc_code.specs.{Path.begun, Runs.{Turn, turns_of, said_by}, Whole.{CheckedRun, Erase, place_after}}
use Rattle.sharc_cpu.specs.Thread.{ThreadView}
use Rattle.sharc_threads.specs.Ends.{AreStarted}
use Rattle.sharc_flat.specs.{declared.flat.Flat.{Flat as FlatCode}, Made.flat_of, Flattens.Flattens, Laws.FitsMade}
use Rattle.sharc_compile.specs.{Consistent.IsConsistent, Correct.IsBeginning, Lowered.lowered_in}
use Rattle.sharc_compile.specs.{OfRuns.{elements_before, founds_of, told_in}, Made.IsCodeOf}
use Rattle.sharc_compile_laws.specs.Paths.{TellsProgram}
use Rattle.sharc_flat_laws.specs.Typed.{IsTypedProgram}
use Rattle.sharc_invariant.specs.{Types.Targets, Labels.Labels, Typed.IsWellTyped, Opened.{first_world, first_place}}
use Rattle.sharc_invariant.specs.{Objects.objects_after, MachineInvariant.MachineInvariant}
use Rattle.sharc_invariant.specs.{Bits.{marks_after, AllBitsStand}, State.IsSmall}
use Rattle.sharc_history_laws.specs.Causes.{IsNamed, HasNamed, ShowsCause, BreaksRules}
use Rattle.sharc_history_laws.specs.Conflicts.{IsCheck, ShowsConflict}
use Rattle.sharc_history_laws.specs.{Followed.{IsOfAccess, ShowsLock, access_checked}, History.history_of}
use Rattle.sharc_history_laws.specs.Reports.{FindsOthers}
use Rattle.sharc_sound_laws.specs.CauseLaws.{NamesCause}

-- ---- threads
-- What the words answer a thread is consistent with the objects that the run has made. So it has just begun, or it
-- tells exactly what the program asks for, is over as the program is, and has made at most 64 turns that count for each
-- statement and expression that the program entered, and 64 more.
pub record ThreadStands (m : Assignment) (code : Code) (s : Shape) (run : List Turn) (thread : ℕ) : Type 0 where
  pub consistent :
      IsConsistent code s (begun code s thread) (elements_before code s thread run) (founds_of (turns_of thread run))
  pub tells :
      IsBeginning ((place_after code s run).threads thread) (reverse (told_in (said_by thread (Erase code s run))))
      (paced_in code s (begun code s thread) (founds_of (turns_of thread run)))
      ⊎ TellsProgram m code thread ((place_after code s run).threads thread)
      (reverse (told_in (said_by thread (Erase code s run))))
      (lowered_in code s (begun code s thread) (elements_before code s thread run) (founds_of (turns_of thread run)))
      (paced_in code s (begun code s thread) (founds_of (turns_of thread run)))

-- ---- places
-- Where the run stands: counts, references and what is between a check and its access are as the machine invariant
-- says; and a bit of a shadow word stands where its thread has passed a check since the word was cleared, and only
-- where it has made one.
pub record PlaceStands (x : Targets) (code : Code) (s : Shape) (ls : Labels) (run : List Turn) : Type 0 where
  pub invariant : MachineInvariant x code s ls (place_after code s run)
      (objects_after code s ls (first_place code s) (first_world x).obj run)
  pub bits : AllBitsStand s (place_after code s run).words (marks_after code s (first_place code s) run)

-- ---- reports
-- Of a thread that has stopped at the check of an access. Threads whose bits stood in the word that was found had made
-- checks of the granule; each other check that a report may name, by the notes and stops at the end of the run, is the
-- cause, and there is one; so is that which the report of the run names; and no history that keeps the rules goes on
-- with the access.
pub record ConflictStands (code : Code) (s : Shape) (run : List Turn) (t : ℕ) (c : ConflictAt) : Type 0 where
  pub shows : ShowsConflict code s run t c
  pub causes : (j : ℕ) (kind : Kind) (site : ℕ) → IsNamed (place_after code s run) t c j kind site
      → ShowsCause code s run t c j kind site
  pub named : HasNamed (place_after code s run) t c
  pub text : (threads : List ThreadView) → AreStarted code s (place_after code s run) threads
      → NamesCause code s run threads t c
  pub breaks : BreaksRules code s run

-- Of one that has stopped at a lock check: by its events it does not hold the mutex that the mode of the access names,
-- and no history that keeps the rules goes on with the access.
pub record LockStands (code : Code) (s : Shape) (run : List Turn) (t site : ℕ) : Type 0 where
  pub shows : ShowsLock code (history_of code s run) t ((place_after code s run).threads t) site
  pub breaks : (e : SourceEvent) → e.thread ≡ t
      → access_by e.act ≡ access_checked code ((place_after code s run).threads t)
      → (until : Until) → Obeys (history_of code s run ++ e ∷ []) until → ⊥

-- ---- all of it
-- of one checked run, whose turns have the last one first
pub record RunStands (m : Assignment) (x : Targets) (code : Code) (s : Shape) (ls : Labels)
    (run : List Turn) : Type 0 where
  pub threads : (thread : ℕ) → ThreadStands m code s run thread
  -- at its end and at each place before
  pub places : (later earlier : List Turn) → run ≡ later ++ earlier → PlaceStands x code s ls earlier
  -- each check of an access is one of the access that follows it, where it passed
  pub checks : (later : List Turn) (check : Turn) (earlier : List Turn) → run ≡ later ++ check ∷ earlier
      → (j : ℕ) (kind : Kind) (granule site : ℕ) (passed : Bool)
      → IsCheck code s earlier check j kind granule site passed → IsOfAccess code s later check earlier j site passed
  pub conflicts : (t : ℕ) (c : ConflictAt) → ((place_after code s run).threads t).own.stop ≡ Some (Conflict c)
      → ConflictStands code s run t c
  pub locks : (t site word : ℕ) → ((place_after code s run).threads t).own.stop ≡ Some (NoLock site word)
      → LockStands code s run t site
  -- of a thread that has stopped at a test of a sole reference: the count that it found is the number of references, at
  -- least 2, and one of them is another than the one tested
  pub casts : (t site count : ℕ) → ((place_after code s run).threads t).own.stop ≡ Some (NotSole site count)
      → FindsOthers x code s ls run t site count

-- so it is of the code of a typed, well-moded program with its least assignment, where that code is typed
abbrev pub TypedRunsStand : Type 0
TypedRunsStand = (m : Assignment) → IsTypedProgram m → (flat : FlatCode) → Flattens m flat → FitsMade (flat_of flat)
    → (code : Code) → IsCodeOf flat code
    → (x : Targets) (ls : Labels) → IsWellTyped x code ls → (s : Shape) → Fits code s → IsSmall code s
    → (run : List Turn) → CheckedRun code s run → RunStands m x code s ls run
