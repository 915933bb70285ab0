-- The holders of references, each at one place of a list of events: at the last event by which it became one.
use Rattle.std.specs.Prelude.{ℕ, ℤ, pos, negsuc, zero, suc, ◌==◌, Bool, true, false, not, ◌&&◌, ◌||◌, List, [], ◌∷◌}
use Rattle.std.specs.Prelude.{◌++◌, map, Option, Some, None, if◌then◌else◌}
use Rattle.std.specs.List.{list_any}
use Rattle.sharc_tree.specs.{declared.event.Act.Act, declared.event.CellAt.CellAt, declared.event.Object.Object}
use Rattle.sharc_tree.specs.{declared.event.Object.TheVariants.{Global, Made}, declared.event.SourceEvent.SourceEvent}
use Rattle.sharc_tree.specs.declared.event.Act.TheVariants as acts
use Rattle.sharc_ctype.specs.Resolved.{Resolution}
use Rattle.sharc_mode.specs.Moded.{Assignment}
use Rattle.sharc_meaning.specs.Events.{is_of, same_object, locks, unlocks}
use Rattle.sharc_meaning.specs.References.{refers, is_pointer_of, is_taken_to_free, passes}
use Rattle.sharc_meaning.specs.Store.{changes, value_after, is_live, spawns}
use Rattle.sharc_meaning_tests.specs.declared.holder.Holder.{Holder}
use Rattle.sharc_meaning_tests.specs.declared.holder.Holder.TheVariants.{InCell, InArgument, InMutex, InThread}
use Rattle.sharc_meaning_tests.specs.Starting.{thread_count}

-- what is listed at each place, by the event there and those after it
abbrev pub at_places : (SourceEvent → List SourceEvent → List Holder) → List SourceEvent → List Holder
at_places q [] = []
at_places q (e ∷ after) = q e after ++ at_places q after

-- ---- cells, at their last Write

abbrev pub counts : List SourceEvent → ℕ → Object → Bool
counts R n (Global g) = true
counts R n (Made k) = is_live R (Made k) && ((k == n) || not (is_taken_to_free R k))

abbrev pub cell_refers : Resolution → List SourceEvent → ℕ → CellAt → Bool
cell_refers r R n c = is_pointer_of r R c.object c.cell && (counts R n c.object && refers n (value_after r R c))

abbrev pub cell_at : Resolution → List SourceEvent → ℕ → CellAt → List SourceEvent → List Holder
cell_at r R n c after = if not (list_any (changes c) after) && cell_refers r R n c then InCell c ∷ [] else []

-- ---- mutexes, at their last Lock

abbrev pub mutex_at : ℕ → CellAt → List SourceEvent → List Holder
mutex_at n c after =
    if same_object c.object (Made n) && not (list_any (λ e. locks c e || unlocks c e) after) then InMutex c ∷ [] else []

-- ---- arguments, at the last Spawn that passes the reference

abbrev pub is_passed : Resolution → ℕ → ℕ → SourceEvent → Bool
is_passed r n thread e = spawns thread e && passes r n e.act

abbrev pub argument_at : Resolution → List SourceEvent → ℕ → SourceEvent → List SourceEvent → ℤ → List Holder
argument_at r R n e after (pos thread) =
    if (passes r n e.act && not (list_any (is_of thread) R)) && not (list_any (is_passed r n thread) after)
    then InArgument thread ∷ []
    else []
argument_at r R n e after (negsuc k) = []

-- ---- threads, at their last event

-- this many, by their numbers from 0 on
abbrev pub in_thread_all : ℕ → ℕ → List Holder
in_thread_all thread zero = []
in_thread_all thread (suc k) = in_thread_all thread k ++ InThread thread k ∷ []

abbrev pub thread_at : ℕ → Assignment → List SourceEvent → ℕ → ℕ → List SourceEvent → List Holder
thread_at fuel m R n thread after =
    if list_any (is_of thread) after then [] else in_thread_all thread (thread_count fuel m R thread n)

-- ---- all

abbrev pub by_act : Resolution → List SourceEvent → ℕ → SourceEvent → List SourceEvent → Act → List Holder
by_act r R n e after (acts.Write c mode v) = cell_at r R n c after
by_act r R n e after (acts.Lock c) = mutex_at n c after
by_act r R n e after (acts.Spawn f v) = argument_at r R n e after e.answer
by_act r R n e after _ = []

abbrev pub holders_at : ℕ → Assignment → List SourceEvent → ℕ → SourceEvent → List SourceEvent → List Holder
holders_at fuel m R n e after = by_act m.typed R n e after e.act ++ thread_at fuel m R n e.thread after

abbrev pub holders : ℕ → Assignment → List SourceEvent → ℕ → List Holder
holders fuel m R n = at_places (holders_at fuel m R n) R
