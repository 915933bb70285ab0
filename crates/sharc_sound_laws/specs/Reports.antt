-- What the reports of the runs of an accepted program show, where the code is typed.
use Rattle.std.specs.Prelude.{◌≡◌, ℕ, pos, List, Some}
use Rattle.sharc_tree.specs.declared.event.Act.{Act}
use Rattle.sharc_heap.specs.declared.shadow_word.Kind.{Kind}
use Rattle.sharc_mode.specs.Moded.{Assignment}
use Rattle.sharc_code.specs.{declared.code.Code.Code, declared.shape.Shape.Shape}
use Rattle.sharc_code.specs.{declared.state.TurnState.TheVariants.Stopped, declared.state.Stop.Stop}
use Rattle.sharc_code.specs.{declared.state.Stop.TheVariants.{Conflict, NoLock, NotSole, Trap}, Layout.Fits, Runs.Turn}
use Rattle.sharc_code.specs.{Says.place_at, Whole.{CheckedRun, place_after}}
use Rattle.sharc_flat.specs.{declared.flat.Flat.{Flat as FlatCode}, Made.flat_of, Laws.FitsMade, Flattens.Flattens}
use Rattle.sharc_meaning.specs.{Meaning.Asked, Obeys.History, State.{wants, event_of}}
use Rattle.sharc_compile.specs.{Made.IsCodeOf, Refused.{IsRefused, IsReport, site_of}}
use Rattle.sharc_accepted_laws.specs.Accepted.{IsSourceProgram}
use Rattle.sharc_invariant.specs.{Types.Targets, Labels.Labels, Typed.IsWellTyped, State.IsSmall}
use Rattle.sharc_history_laws.specs.{Causes.{HasNamed, IsNamed, ShowsCause}, Followed.ShowsLock, History.history_of}
use Rattle.sharc_history_laws.specs.Reports.{FindsOthers}
use Rattle.sharc_build.specs.{declared.building.Built.Built, Built.IsBuilt}
use Rattle.sharc_sound_laws.specs.Standing.{StandsAt}

-- A1 and A2: whatever check a report may name, by the notes and stops at the end of the run, is the cause, and there is
-- one to name. A3: the mode of the access names the mutex that was looked for, which the thread does not hold by its
-- events. A4: the count is that of the references to the object, at least 2, and one of them stands elsewhere.
abbrev pub Shows : Targets → Code → Shape → Labels → List Turn → (t : ℕ) → Stop → Type 0
Shows x code s ls run t (Conflict c) =
    ((j : ℕ) (kind : Kind) (site : ℕ) → IsNamed (place_after code s run) t c j kind site
    → ShowsCause code s run t c j kind site) × HasNamed (place_after code s run) t c
Shows x code s ls run t (NoLock site word) =
    ShowsLock code (history_of code s run) t ((place_after code s run).threads t) site
Shows x code s ls run t (NotSole site count) = FindsOthers x code s ls run t site count
Shows x code s ls run t (Trap trap site) = Unit {0}

-- By its events of the run the thread of the source wants what was refused, at the site of the report: an access in
-- mode dynamic, an access under a mutex that it does not hold, or that a reference is given or freed.
pub record WantsReported (m : Assignment) (code : Code) (R : History) (t : ℕ) (stop : Stop) : Type 0 where
  pub come : Asked
  pub stands : StandsAt m R t come
  pub act : Act
  pub wanted : come.outcome ≡ wants (event_of (place_at code (site_of stop)).site act (pos 0))
  pub refused : IsRefused stop act come.events

pub record IsReportOf (m : Assignment) (x : Targets) (code : Code) (s : Shape) (ls : Labels) (run : List Turn) (t : ℕ)
    (stop : Stop) : Type 0 where
  pub shows : Shows x code s ls run t stop
  pub wants_it : WantsReported m code (history_of code s run) t stop

-- so it is of each report A1 to A4 of every checked run, by threads in any order
abbrev pub ReportsShowIfTyped : Type 0
ReportsShowIfTyped = (m : Assignment) → IsSourceProgram m
    → (flat : FlatCode) → Flattens m flat → FitsMade (flat_of flat) → (code : Code) → IsCodeOf flat code
    → (x : Targets) (ls : Labels) → IsWellTyped x code ls → (s : Shape) → Fits code s → IsSmall code s
    → (run : List Turn) → CheckedRun code s run
    → (t : ℕ) (stop : Stop) → ((place_after code s run).threads t).at.state ≡ Stopped
    → ((place_after code s run).threads t).own.stop ≡ Some stop → IsReport stop → IsReportOf m x code s ls run t stop

-- and of the code that is built of a source
abbrev pub BuiltReportsShowIfTyped : Type 0
BuiltReportsShowIfTyped = (source : List ℕ) (built : Built) → IsBuilt source built
    → (x : Targets) (ls : Labels) → IsWellTyped x built.code ls
    → (s : Shape) → Fits built.code s → (run : List Turn) → CheckedRun built.code s run → (t : ℕ) (stop : Stop)
    → ((place_after built.code s run).threads t).at.state ≡ Stopped
    → ((place_after built.code s run).threads t).own.stop ≡ Some stop → IsReport stop
    → IsReportOf built.checked x built.code s ls run t stop
