-- Mutexes and condition variables: what is asked for, and where it stops.
use Rattle.std.specs.Prelude.{ℕ, ℤ, nat_lt, not, List, [], ◌∷◌, length, slice_index_or, codes, if◌then◌else◌}
use Rattle.std.specs.Str.{bytes_eq}
use Rattle.sharc_tree.specs.declared.event.Act.TheVariants as acts
use Rattle.sharc_tree.specs.{declared.event.CellAt.CellAt, declared.event.Object.TheVariants.{Global, Made}}
use Rattle.sharc_tree.specs.declared.token.Site.{Site}
use Rattle.sharc_tree.specs.declared.trap.Trap.TheVariants as traps
use Rattle.sharc_meaning.specs.{Cells.cell_of, Events.{held_mutexes, holds_mutex}, Reference.{NULL, is_null}}
use Rattle.sharc_meaning.specs.declared.given.GivenUp.TheVariants.{Released}
use Rattle.sharc_meaning.specs.State.{Step, ◌>>=◌, ◌>>◌, done, unless_stop, answered, performs, gives_up}
use Rattle.sharc_meaning.specs.State.{holds_reference, moves_on, looks_at}
use Rattle.sharc_meaning.specs.Places.{StorePlace, variable, cell, pointee}

abbrev pub cell_at_place : StorePlace → CellAt
cell_at_place (variable x) = cell_of (Global 0) 0
cell_at_place (cell o first c) = cell_of o c

-- the base of a mutex in an object is a reference, which a lock moves to the log of held mutexes
abbrev pub moves_base : StorePlace → Step
moves_base (cell (Made n) first c) = moves_on 1
moves_base _ = done

abbrev pub gives_up_base : StorePlace → Step
gives_up_base (cell (Made n) first c) = gives_up (Released n ∷ [])
gives_up_base _ = done

-- a mutex that the thread holds already stops, and so does a seventeenth
abbrev pub lock_call : Site → StorePlace → Step
lock_call site p = do
  own ← looks_at (λ s. s.events)
  unless_stop (not (holds_mutex own (cell_at_place p))) traps.MutexAlreadyHeld site
  unless_stop (nat_lt (length (held_mutexes own)) 16) traps.TooManyLocks site
  performs site (acts.Lock (cell_at_place p))
  moves_base p

-- a mutex that it does not hold stops
abbrev pub unlock_call : Site → StorePlace → Step
unlock_call site p = do
  own ← looks_at (λ s. s.events)
  unless_stop (holds_mutex own (cell_at_place p)) traps.MutexNotHeld site
  performs site (acts.Unlock (cell_at_place p))
  gives_up_base p

-- `wait(c, m)`: `c` is looked at before `m`, and NULL stops before a mutex that is not held. From its Unlock to its
-- Lock the thread holds one more reference to the object of the mutex.
abbrev pub wait_call : Site → ℤ → ℤ → Step
wait_call site c m = do
  unless_stop (not (is_null c)) traps.NullPointer site
  unless_stop (not (is_null m)) traps.NullPointer site
  own ← looks_at (λ s. s.events)
  unless_stop (holds_mutex own (cell_at_place (pointee m))) traps.MutexNotHeld site
  performs site (acts.Enter (cell_at_place (pointee c)))
  performs site (acts.Unlock (cell_at_place (pointee m)))
  holds_reference m
  performs site (acts.Woken (cell_at_place (pointee c)))
  performs site (acts.Lock (cell_at_place (pointee m)))
  moves_on 1

abbrev pub signal_call : Site → ℤ → Step
signal_call site c = do
  unless_stop (not (is_null c)) traps.NullPointer site
  answered site (acts.Signal (cell_at_place (pointee c)))
  done

abbrev pub broadcast_call : Site → ℤ → Step
broadcast_call site c = do
  unless_stop (not (is_null c)) traps.NullPointer site
  performs site (acts.Broadcast (cell_at_place (pointee c)))

-- a known call of this name
abbrev pub condition_call : Site → List ℕ → List ℤ → Step
condition_call site name vs =
    if bytes_eq name (codes "wait") then wait_call site (slice_index_or vs 0 NULL) (slice_index_or vs 1 NULL)
    else if bytes_eq name (codes "signal") then signal_call site (slice_index_or vs 0 NULL)
    else broadcast_call site (slice_index_or vs 0 NULL)
