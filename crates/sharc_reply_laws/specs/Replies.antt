-- What a reply tells that makes a run: of one list of turns, all that is said of it.
use Rattle.std.specs.Prelude.{◌≡◌, ℕ, ◌<◌, ◌≤◌, false, List, ◌++◌, flat_map, length, take, Contains, Option, Some}
use Rattle.std.specs.Io.KnownBytes.{Appends}
use Rattle.sharc_mode.specs.Moded.{Assignment}
use Rattle.sharc_check.specs.Rules.{MeetsRules}
use Rattle.sharc_code.specs.{declared.code.Code.Code, declared.shape.Shape.Shape}
use Rattle.sharc_code.specs.{declared.state.TurnState.TheVariants.Stopped, declared.state.Stop.Stop, Layout.Fits}
use Rattle.sharc_code.specs.{Runs.Turn, Whole.{CheckedRun, place_after}}
use Rattle.sharc_cpu.specs.Thread.{ThreadView}
use Rattle.sharc_threads.specs.Ends.{AreStarted, is_enabled}
use Rattle.sharc_run.specs.{declared.outcome.Outcome.Outcome, Outcome.HasOutcome, RunText.{IsRunText, thread_line}}
use Rattle.sharc_compile.specs.Refused.{IsReport}
use Rattle.sharc_invariant.specs.{Labels.Labels, Typed.IsWellTyped}
use Rattle.sharc_accepted_laws.specs.Targets.{targets_of}
use Rattle.sharc_history_laws.specs.History.{history_of}
use Rattle.sharc_front_end.specs.Front.{IsFront}
use Rattle.sharc_build.specs.Built.{IsBuilt}
use Rattle.sharc_sound_laws.specs.Deadlock.{IsDeadlock}
use Rattle.sharc_reply_laws.specs.{Prints.{printed_in, value_line}, Orders.{AreTurnsBy, Asks, Order, written_of}}
use Rattle.sharc_reply_laws.specs.{Reports.ReportTells, Runs.RunTells, Threads.ThreadTells}
use Rattle.sharc_top.specs.{declared.status.Status.Status, Reply.{Replied, RepliedInPart, Replies}, Running.status_of}
use Rattle.sharc_top.specs.Status.{code_of}
use Rattle.sharc_top.specs.declared.status.Status.TheVariants as status

-- Of a thread of a run whose line says why it was stopped: it is among those of the run, was stopped there for that,
-- and tells this.
pub record LineTells (m : Assignment) (code : Code) (s : Shape) (ls : Labels) (run : List Turn)
    (threads : List ThreadView) (t : ThreadView) (stop : Stop) : Type 0 where
  pub number : ℕ
  pub is : t.machine.own.number ≡ number
  pub stopped : ((place_after code s run).threads number).at.state ≡ Stopped
  pub stop_is : ((place_after code s run).threads number).own.stop ≡ Some stop
  pub report : IsReport stop → ReportTells m code s ls run threads number stop
  pub source : ThreadTells m code s run number

-- The reply to an order, of a source that is this program: its status, and what is to be written.
pub record ReplyTells (o : Order) (m : Assignment) (s : Status) (reply : List ℕ) : Type 0 where
  -- there is the code that is built of the source, and a shape that fits it with the heap of the order
  pub code : Code
  pub built : IsBuilt o.source record { checked = m; code = code }
  pub shape : Shape
  pub fits : Fits code shape
  pub heap_is : shape.heap ≡ o.heap
  -- and a checked run, in which no thread makes more events than the limit, whose turns are chosen as the order says,
  -- and at whose end no thread may make one: each that was started is gone, was stopped, waits or has made all its
  -- events
  pub turns : List Turn
  pub checked : CheckedRun code shape turns
  pub few : (t : ℕ) → (place_after code shape turns).made t ≤ o.limit
  pub chosen : AreTurnsBy o.choice code shape o.limit turns
  pub over : (t : ℕ) → is_enabled code shape o.limit (place_after code shape turns) t ≡ false
  -- the text is that of its threads, and is written in the form of the order; the status is that of its outcome
  pub threads : List ThreadView
  pub started : AreStarted code shape (place_after code shape turns) threads
  pub text : List ℕ
  pub text_is : IsRunText code (place_after code shape turns).words threads text
  pub outcome : Outcome
  pub outcome_is : HasOutcome code shape o.limit (place_after code shape turns) threads outcome
  pub status_is : s ≡ status_of outcome
  pub reply_is : reply ≡ written_of o o.form code shape turns text
  -- it begins with a line for each Print event of the source run, in the order of these, and goes on with a line for
  -- each thread that is not gone
  pub prints : text ≡ flat_map value_line (printed_in (history_of code shape turns))
      ++ flat_map (thread_line code (place_after code shape turns).words threads) threads
  -- what every checked run tells of the source
  pub ls : Labels
  pub typed : IsWellTyped (targets_of m) code ls
  pub tells : RunTells m code shape ls turns
  -- so does each line that says why a thread was stopped: A1 to A4 show their cause, and X1 to X13 are stops of the
  -- source, or come where it wants its next event
  pub lines : (t : ThreadView) → Contains threads t
      → (stop : Stop) → t.machine.own.stop ≡ Some stop → LineTells m code shape ls turns threads t stop
  -- with status 5 the source is in a deadlock there
  pub deadlock : s ≡ status.Stuck → IsDeadlock m code shape turns

-- ---- the laws
-- nothing is asked beside what the words and the input are, and that the modes of the source are accepted
abbrev pub RepliesTell : Type 0
RepliesTell = (words : List (List ℕ)) (input : List ℕ) (o : Order) → Asks words input o
    → (m : Assignment) → IsFront o.source m → MeetsRules m
    → (s : Status) (reply : List ℕ) → Replies words input s reply → ReplyTells o m s reply

-- ---- what arrives
-- the whole reply, with its exit status
pub record TellsWhole (o : Order) (m : Assignment) (old new : Option (List ℕ)) (code : ℕ) : Type 0 where
  pub status : Status
  pub reply : List ℕ
  pub tells : ReplyTells o m status reply
  pub ends : code ≡ code_of status
  pub written : Appends old new reply

abbrev pub WholeRepliesTell : Type 0
WholeRepliesTell = (words : List (List ℕ)) (input : List ℕ) (o : Order) → Asks words input o
    → (m : Assignment) → IsFront o.source m → MeetsRules m
    → (old new : Option (List ℕ)) (code : ℕ) → Replied words (Some input) old new code → TellsWhole o m old new code

-- or, with exit status 10, the beginning of one
pub record TellsFront (o : Order) (m : Assignment) (old new : Option (List ℕ)) : Type 0 where
  pub status : Status
  pub reply : List ℕ
  pub tells : ReplyTells o m status reply
  pub count : ℕ
  pub short : count < length reply
  pub written : Appends old new (take count reply)

abbrev pub CutRepliesTell : Type 0
CutRepliesTell = (words : List (List ℕ)) (input : List ℕ) (o : Order) → Asks words input o
    → (m : Assignment) → IsFront o.source m → MeetsRules m
    → (old new : Option (List ℕ)) → RepliedInPart words (Some input) old new → TellsFront o m old new
