-- Parts of the runs of mutexes and condition variables, as the code's functions have them.
use Rattle.std.specs.Prelude.{ℤ, not}
use Rattle.sharc_tree.specs.declared.event.Act.TheVariants as acts
use Rattle.sharc_tree.specs.{declared.event.CellAt.CellAt, declared.token.Site.Site}
use Rattle.sharc_tree.specs.declared.trap.Trap.TheVariants as traps
use Rattle.sharc_meaning.specs.{Events.holds_mutex, Places.pointee}
use Rattle.sharc_meaning.specs.State.{Step, ◌>>=◌, ◌>>◌, performs, holds_reference, moves_on, unless_stop, looks_at}
use Rattle.sharc_meaning.specs.Waiting.{cell_at_place}

-- a mutex that is not held stops
abbrev pub stops_unless_held : CellAt → Site → Step
stops_unless_held c site = do
  own ← looks_at (λ s. s.events)
  unless_stop (holds_mutex own c) traps.MutexNotHeld site

-- a mutex that is held stops
abbrev pub stops_where_held : CellAt → Site → Step
stops_where_held c site = do
  own ← looks_at (λ s. s.events)
  unless_stop (not (holds_mutex own c)) traps.MutexAlreadyHeld site

-- from the Unlock of a wait on the thread holds one more reference to the object of the mutex, until it has locked it
-- again
abbrev pub awakes : Site → ℤ → ℤ → Step
awakes site c m = do
  holds_reference m
  performs site (acts.Woken (cell_at_place (pointee c)))
  performs site (acts.Lock (cell_at_place (pointee m)))
  moves_on 1

-- a wait from its Enter on
abbrev pub waits : Site → ℤ → ℤ → Step
waits site c m = do
  performs site (acts.Enter (cell_at_place (pointee c)))
  performs site (acts.Unlock (cell_at_place (pointee m)))
  awakes site c m
