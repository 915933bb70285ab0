-- What the reports of a checked run show: the cause of each, and that it is about what the source wants next.
use Rattle.std.specs.Prelude.{◌≡◌, ℕ, pos, Bool, List, Some}
use Rattle.sharc_tree.specs.declared.event.Act.{Act}
use Rattle.sharc_heap.specs.declared.shadow_word.Kind.{Kind}
use Rattle.sharc_mode.specs.Moded.{Assignment}
use Rattle.sharc_meaning.specs.{Events.{Access, access_by}, Meaning.Asked, Obeys.History, Reference.number_of}
use Rattle.sharc_meaning.specs.State.{wants, event_of}
use Rattle.sharc_code.specs.{declared.code.Code.Code, declared.shape.Shape.Shape, declared.state.ConflictAt.ConflictAt}
use Rattle.sharc_code.specs.{declared.state.TurnState.TheVariants.Stopped, declared.state.Stop.Stop}
use Rattle.sharc_code.specs.{declared.state.Stop.TheVariants.{Conflict, NoLock, NotSole, Trap}, Layout.Fits}
use Rattle.sharc_code.specs.{Machine.ref, Runs.Turn, Says.place_at, Whole.{CheckedRun, place_after}}
use Rattle.sharc_cpu.specs.Thread.{ThreadView}
use Rattle.sharc_guard.specs.Counted.{IsUnder}
use Rattle.sharc_accepted_laws.specs.Accepted.{OfSources}
use Rattle.sharc_invariant.specs.{Types.Targets, Labels.Labels, Typed.IsWellTyped, State.IsSmall}
use Rattle.sharc_history_laws.specs.{Causes.{IsNamed, ShowsCause}, Conflicts.IsCheck}
use Rattle.sharc_history_laws.specs.{Followed.{ShowsLock, access_checked}, History.history_of, Reports.FindsOthers}
use Rattle.sharc_sound_laws.specs.{CauseLaws.NamesCause, Reports.WantsReported, Standing.StandsAt}
use Rattle.sharc_wants_laws.specs.Cause.{ShowsReference}

-- by these events the thread of the source wants this access next, at a site of the code
pub record ThreadWantsAccess (m : Assignment) (code : Code) (R : History) (thread site : ℕ)
    (access : Access) : Type 0 where
  pub come : Asked
  pub stands : StandsAt m R thread come
  pub act : Act
  pub wanted : come.outcome ≡ wants (event_of (place_at code site).site act (pos 0))
  pub is : access_by act ≡ Some access

-- ---- the cause of a report
-- Of a refused access: the other access that the text names was in the way, and so was each that the text could have
-- named.
pub record OthersAreCause (code : Code) (s : Shape) (run : List Turn) (threads : List ThreadView) (t : ℕ)
    (c : ConflictAt) : Type 0 where
  pub names : NamesCause code s run threads t c
  pub all : (j : ℕ) (kind : Kind) (site : ℕ) → IsNamed (place_after code s run) t c j kind site
      → ShowsCause code s run t c j kind site

-- What was in the way of a thread. A1 and A2: an access of another thread. A3: it does not hold the mutex that the mode
-- of the access names. A4: the number is that of the references to the object, at least 2; where none is in flight, the
-- history has one besides that which was taken.
abbrev pub Cause : Assignment → Code → Shape → Labels → List Turn → List ThreadView → ℕ → Stop → Type 0
Cause m code s ls run threads t (Conflict c) = OthersAreCause code s run threads t c
Cause m code s ls run threads t (NoLock site word) =
    ShowsLock code (history_of code s run) t ((place_after code s run).threads t) site
Cause m code s ls run threads t (NotSole site count) = ShowsReference m code s ls run t site count
Cause m code s ls run threads t (Trap trap site) = Unit {0}

-- ---- what was refused
-- the object of the reference that a thread looked at, by the place of its test
abbrev pub object_tested : {x : Targets} {code : Code} {s : Shape} {ls : Labels} {run : List Turn} {t site count : ℕ}
    → FindsOthers x code s ls run t site count → ℕ
object_tested {x} {code} {s} {ls} {run} {t} {site} {count} finds =
    ref ((place_after code s finds.earlier).threads t) finds.register

-- the access of the check that was refused
abbrev pub access_refused : {code : Code} {s : Shape} {run : List Turn} {t : ℕ} {c : ConflictAt} {j : ℕ} {kind : Kind}
    {site : ℕ} → ShowsCause code s run t c j kind site → Access
access_refused shown = shown.cause.refused.access

-- The source wants that access: at the place of the check, and by the events of the whole run.
pub record IsThatAccess (m : Assignment) (code : Code) (s : Shape) (run : List Turn) (t : ℕ) (c : ConflictAt) (j : ℕ)
    (kind : Kind) (site : ℕ) (shown : ShowsCause code s run t c j kind site)
    (wants_it : WantsReported m code (history_of code s run) t (Conflict c)) : Type 0 where
  pub at_check : ThreadWantsAccess m code (history_of code s shown.before) t c.site (access_refused shown)
  pub at_end : access_by wants_it.act ≡ Some (access_refused shown)

-- It is what the source wants. A1 and A2: the access that was refused. A3: an access under that mutex. A4: that
-- reference is given or freed.
abbrev pub IsThat : (m : Assignment) (code : Code) (s : Shape) (ls : Labels) (run : List Turn)
    (threads : List ThreadView) (t : ℕ) (stop : Stop) → Cause m code s ls run threads t stop
    → WantsReported m code (history_of code s run) t stop → Type 0
IsThat m code s ls run threads t (Conflict c) cause wants_it = IsThatAccess m code s run t c cause.names.other.thread
    cause.names.other.kind cause.names.other.site cause.names.cause wants_it
IsThat m code s ls run threads t (NoLock site word) cause wants_it = IsUnder cause.mutex wants_it.act
IsThat m code s ls run threads t (NotSole site count) cause wants_it =
    number_of wants_it.refused.0 ≡ object_tested cause.finds
IsThat m code s ls run threads t (Trap trap site) cause wants_it = Unit {0}

-- ---- a report
-- its cause; that by the events of the run the source wants next what A1 to A4 refuse, at the site of the report; and
-- that it is what was refused
pub record ReportTells (m : Assignment) (code : Code) (s : Shape) (ls : Labels) (run : List Turn)
    (threads : List ThreadView) (t : ℕ) (stop : Stop) : Type 0 where
  pub cause : Cause m code s ls run threads t stop
  pub wants_it : WantsReported m code (history_of code s run) t stop
  pub is_that : IsThat m code s ls run threads t stop cause wants_it

-- ---- laws of the code of a typed, well-moded program, where that code is typed
-- of what a check is a check, that the source wants where the thread makes it
abbrev pub AccessesAreWanted : Assignment → Code → Type 0
AccessesAreWanted m code = (x : Targets) (s : Shape) (ls : Labels) → IsWellTyped x code ls → Fits code s
    → IsSmall code s → (before : List Turn) → CheckedRun code s before
    → (check : Turn) (kind : Kind) (granule site : ℕ) (passed : Bool)
    → IsCheck code s before check check.thread kind granule site passed
    → (a : Access) → access_checked code ((place_after code s before).threads check.thread) ≡ Some a
    → ThreadWantsAccess m code (history_of code s before) check.thread site a

abbrev pub TypedAccessesAreWanted : Type 0
TypedAccessesAreWanted = OfSources AccessesAreWanted

-- and by the events of the whole run it wants the access of the check that was refused
pub record WantsRefusedAccess (m : Assignment) (code : Code) (s : Shape) (run : List Turn) (t : ℕ) (c : ConflictAt)
    (a : Access) : Type 0 where
  pub wants_it : WantsReported m code (history_of code s run) t (Conflict c)
  pub same : access_by wants_it.act ≡ Some a

abbrev pub RefusedAreWanted : Assignment → Code → Type 0
RefusedAreWanted m code = (x : Targets) (s : Shape) (ls : Labels) → IsWellTyped x code ls → Fits code s → IsSmall code s
    → (run : List Turn) → CheckedRun code s run
    → (t : ℕ) (c : ConflictAt) → ((place_after code s run).threads t).at.state ≡ Stopped
    → ((place_after code s run).threads t).own.stop ≡ Some (Conflict c)
    → (j : ℕ) (kind : Kind) (site : ℕ)
    → (shown : ShowsCause code s run t c j kind site) → WantsRefusedAccess m code s run t c (access_refused shown)

abbrev pub TypedRefusedAreWanted : Type 0
TypedRefusedAreWanted = OfSources RefusedAreWanted

-- and of the mutex that a refused lock check looks for
pub record ThreadWantsMutex (m : Assignment) (code : Code) (s : Shape) (run : List Turn) (t site word : ℕ)
    (shows : ShowsLock code (history_of code s run) t ((place_after code s run).threads t) site) : Type 0 where
  pub wants_it : WantsReported m code (history_of code s run) t (NoLock site word)
  pub same : IsUnder shows.mutex wants_it.act

abbrev pub LocksAreWanted : Assignment → Code → Type 0
LocksAreWanted m code = (x : Targets) (s : Shape) (ls : Labels) → IsWellTyped x code ls → Fits code s → IsSmall code s
    → (run : List Turn) → CheckedRun code s run
    → (t site word : ℕ) → ((place_after code s run).threads t).at.state ≡ Stopped
    → ((place_after code s run).threads t).own.stop ≡ Some (NoLock site word)
    → (shows : ShowsLock code (history_of code s run) t ((place_after code s run).threads t) site)
    → ThreadWantsMutex m code s run t site word shows

abbrev pub TypedLocksAreWanted : Type 0
TypedLocksAreWanted = OfSources LocksAreWanted

-- and what is given or freed where a test of a reference was refused
abbrev pub GivenAreTested : Assignment → Code → Type 0
GivenAreTested m code = (x : Targets) (s : Shape) (ls : Labels) → IsWellTyped x code ls → Fits code s → IsSmall code s
    → (run : List Turn) → CheckedRun code s run
    → (t site count : ℕ) → (wants_it : WantsReported m code (history_of code s run) t (NotSole site count))
    → (finds : FindsOthers x code s ls run t site count)
    → number_of wants_it.refused.0 ≡ object_tested finds

abbrev pub TypedGivenAreTested : Type 0
TypedGivenAreTested = OfSources GivenAreTested
