-- The text of a run that has ended.
use Rattle.std.specs.Prelude.{◌≡◌, ℕ, ◌-◌, ◌==◌, Bool, true, false, List, [], ◌++◌, codes, decimal, slice_index, Option}
use Rattle.std.specs.Prelude.{Some, None, if◌then◌else◌}
use Rattle.std.specs.{Fmt.signed_decimal, List.flat_map, Ordering.nat_cmp}
use Rattle.std.specs.List.Sorted.{IsPermutation, IsSortedByKey, IsStableByKey}
use Rattle.sharc_tree.specs.{declared.trap.Trap.Trap, Traps.trap_number}
use Rattle.sharc_tree.specs.declared.trap.Trap.TheVariants as traps
use Rattle.sharc_heap.specs.{declared.shadow_word.Kind.Kind, declared.shadow_word.Kind.TheVariants.{Read, Write}}
use Rattle.sharc_code.specs.{declared.code.Code.Code, declared.code.Use.Use, declared.state.ConflictAt.ConflictAt}
use Rattle.sharc_code.specs.{declared.state.Print.Print, declared.state.TurnState.TurnState}
use Rattle.sharc_code.specs.declared.state.TurnState.TheVariants.{Runs, Tries, Stopped, Ended}
use Rattle.sharc_code.specs.declared.state.Stop.{Stop}
use Rattle.sharc_code.specs.declared.state.Stop.TheVariants.{Conflict, NoLock, NotSole, Trap as Trapped}
use Rattle.sharc_code.specs.{declared.state.Wait.Wait, declared.state.Wait.TheVariants.{Mutex, Join, Cond}}
use Rattle.sharc_code.specs.{Says.place_at, Waits.is_held_up}
use Rattle.sharc_code.specs.declared.code.Use.TheVariants as uses
use Rattle.sharc_cpu.specs.Thread.{ThreadView}
use Rattle.sharc_run.specs.{declared.other.NotedCheck.NotedCheck, Others.{number_of, other_access}}
use Rattle.sharc_run.specs.Places.{lvalue, lock_path, at_site, lvalue_at}

-- ---- prints
abbrev pub place_of : Print → ℕ
place_of p = p.place

abbrev pub prints_of : ThreadView → List Print
prints_of t = t.machine.own.prints

-- all prints of these threads, in the order of their places. Those of one place, which no run has, are in the order of
-- the threads
pub record AreInOrder (threads : List ThreadView) (prints : List Print) : Type 0 where
  pub all : IsPermutation (flat_map prints_of threads) prints
  pub in_order : IsSortedByKey place_of nat_cmp prints
  pub ties : IsStableByKey place_of nat_cmp (flat_map prints_of threads) prints

abbrev pub print_line : Print → List ℕ
print_line p = signed_decimal p.value ++ codes "\n"

-- ---- reports
abbrev pub of_kind : Kind → List ℕ
of_kind Read = codes "read of "
of_kind Write = codes "write of "

-- read of LV at F:N
abbrev pub access_text : Code → Kind → ℕ → List ℕ
access_text code kind site = of_kind kind ++ lvalue_at code site

abbrev pub code_of : Kind → List ℕ
code_of Read = codes "A1 "
code_of Write = codes "A2 "

abbrev pub other_text : Code → Option NotedCheck → List ℕ
other_text code None = []
other_text code (Some a) =
    codes " conflicts with " ++ access_text code a.kind a.site ++ codes " by thread " ++ decimal a.thread

-- A1 and A2: with the other access
abbrev pub conflict_text : Code → List ThreadView → ℕ → ConflictAt → List ℕ
conflict_text code threads thread c =
    code_of c.kind ++ access_text code c.kind c.site ++ other_text code (other_access c threads thread)

-- a cast and a free look at their source as a write does
abbrev pub of_use : Use → List ℕ
of_use uses.Read = codes "read of "
of_use uses.Write = codes "write of "
of_use (uses.Cast variable) = codes "write of "
of_use (uses.Free variable) = codes "write of "
of_use uses.Other = codes "read of "

-- A3 read of LV at F:N without lock PATH
abbrev pub no_lock_text : Code → ℕ → List ℕ
no_lock_text code site = codes "A3 " ++ of_use (place_at code site).at ++ lvalue_at code site ++ codes " without lock "
    ++ lock_path code site

abbrev pub of_taking : Use → List ℕ
of_taking (uses.Free variable) = codes "A4 free of "
of_taking _ = codes "A4 cast of "

-- A4 cast of LV at F:N with C references
abbrev pub not_sole_text : Code → ℕ → ℕ → List ℕ
not_sole_text code site count =
    of_taking (place_at code site).at ++ lvalue_at code site ++ codes " with " ++ decimal count ++ codes " references"

-- ---- stops
abbrev pub trap_words : Trap → List ℕ
trap_words traps.NullPointer = codes "null"
trap_words traps.IndexOutOfBounds = codes "bounds"
trap_words traps.DivisionByZero = codes "zero divisor"
trap_words traps.OutOfRange = codes "out of range"
trap_words traps.MutexNotHeld = codes "mutex not held"
trap_words traps.MutexAlreadyHeld = codes "mutex already held"
trap_words traps.NoSuchThread = codes "no such thread"
trap_words traps.ThreadLimit = codes "thread limit"
trap_words traps.HeapFull = codes "heap full"
trap_words traps.CallDepth = codes "call depth"
trap_words traps.ReturnWithLockHeld = codes "return with a lock held"
trap_words traps.SizeNotPositive = codes "size not positive"
trap_words traps.TooManyLocks = codes "too many locks"

-- X3 zero divisor at F:N
abbrev pub trap_text : Code → Trap → ℕ → List ℕ
trap_text code trap site = codes "X" ++ decimal (trap_number trap) ++ codes " " ++ trap_words trap ++ at_site code site

abbrev pub stop_text : Code → List ThreadView → ℕ → Stop → List ℕ
stop_text code threads thread (Conflict c) = conflict_text code threads thread c
stop_text code threads thread (NoLock site word) = no_lock_text code site
stop_text code threads thread (NotSole site count) = not_sole_text code site count
stop_text code threads thread (Trapped trap site) = trap_text code trap site

-- ---- waiting threads, and those that have made all the events that they may
-- a mutex that is held has the number of its holder plus 1
abbrev pub wait_text : Code → List ℕ → Wait → List ℕ
wait_text code words (Mutex word site) =
    codes "waits for mutex " ++ lvalue_at code site ++ codes " held by thread " ++ decimal (slice_index words word - 1)
wait_text code words (Join thread site) = codes "waits for thread " ++ decimal thread ++ at_site code site
wait_text code words (Cond word site) = codes "waits for signal of " ++ lvalue_at code site

abbrev pub made_text : ℕ → List ℕ
made_text made = codes "made " ++ decimal made ++ codes " events"

abbrev pub unstopped_text : Code → List ℕ → ThreadView → Option Wait → List ℕ
unstopped_text code words t None = made_text t.made
unstopped_text code words t (Some wait) =
    if is_held_up words (number_of t) wait then wait_text code words wait else made_text t.made

-- why it is not gone
abbrev pub why_text : Code → List ℕ → List ThreadView → ThreadView → Option Stop → List ℕ
why_text code words threads t None = unstopped_text code words t t.wait
why_text code words threads t (Some stop) = stop_text code threads (number_of t) stop

-- ---- the line of a thread, which has none where it is gone
abbrev pub is_gone : TurnState → Bool
is_gone Runs = false
is_gone Tries = false
is_gone Stopped = false
is_gone Ended = true

abbrev pub thread_line : Code → List ℕ → List ThreadView → ThreadView → List ℕ
thread_line code words threads t =
    if is_gone t.machine.at.state then []
    else codes "thread " ++ decimal (number_of t) ++ codes ": " ++ why_text code words threads t t.machine.own.stop
    ++ codes "\n"

-- ---- the whole: the prints, and then a line for each of these threads that is not gone, in their order
pub record IsRunText (code : Code) (words : List ℕ) (threads : List ThreadView) (text : List ℕ) : Type 0 where
  pub prints : List Print
  pub in_order : AreInOrder threads prints
  pub is : text ≡ flat_map print_line prints ++ flat_map (thread_line code words threads) threads
