-- The event of a turn by what is known of it before its step, and by what the step found. It has no modes of cells.
use Rattle.std.specs.Prelude.{◌≡◌, ℕ, ℤ, pos, zero, suc, ◌-◌, ◌*◌, ◌+◌, ◌==◌, ◌||◌, Option, Some, None, slice_index_or}
use Rattle.std.specs.Prelude.{if◌then◌else◌}
use Rattle.sharc_tree.specs.{declared.token.Site.Site, declared.event.CellAt.CellAt, declared.event.Act.Act}
use Rattle.sharc_tree.specs.declared.event.SourceEvent.{SourceEvent}
use Rattle.sharc_tree.specs.declared.event.Object.TheVariants as objects
use Rattle.sharc_tree.specs.declared.event.Act.TheVariants as acts
use Rattle.sharc_heap.specs.{State.NewView, declared.stage.NewStage.NewStage}
use Rattle.sharc_heap.specs.declared.stage.NewStage.TheVariants.{Length}
use Rattle.sharc_locks.specs.Waiters.{waits_in, lowest_of}
use Rattle.sharc_code.specs.{declared.code.Code.Code, declared.instr.Instr.Instr, Arithmetic.int_of}
use Rattle.sharc_code.specs.Machine.{Machine, function_of}
use Rattle.sharc_code.specs.Says.{no_global, place_at, reference, started_with, said, speaks_of}
use Rattle.sharc_history.specs.{declared.cells.Origin.Origin, declared.cells.Where.Where, declared.event.Deed.Deed}
use Rattle.sharc_history.specs.{declared.event.Event.Event, declared.event.Reference.Reference}
use Rattle.sharc_history.specs.{declared.event.GivenValue.GivenValue, declared.next.Argument.Argument}
use Rattle.sharc_history.specs.{declared.next.Coming.Coming, declared.next.Next.Next}
use Rattle.sharc_history.specs.declared.cells.Origin.TheVariants as origins
use Rattle.sharc_history.specs.declared.cells.Where.TheVariants as places
use Rattle.sharc_history.specs.declared.event.Deed.TheVariants as deeds
use Rattle.sharc_history.specs.declared.event.GivenValue.TheVariants as values
use Rattle.sharc_history.specs.declared.next.Argument.TheVariants as arguments
use Rattle.sharc_history.specs.declared.next.Next.TheVariants as nexts

-- ---- places
abbrev pub in_global : Code → ℕ → ℕ → Where
in_global code global place =
    places.Global global (place - 2 * (slice_index_or code.globals.items global no_global).granule)

abbrev pub at : Where → CellAt
at (places.Global global cell) = record { object = objects.Global global; cell = cell }
at (places.Made number cell) = record { object = objects.Made number; cell = cell }

abbrev pub site_of : Code → Origin → Site
site_of code (origins.Site site) = (place_at code site).site
site_of code (origins.Lock site lock) = (place_at code site).site
site_of code (origins.Wait site wait) = (place_at code site).site
site_of code (origins.Function function) = (function_of code function).site

-- ---- events without modes: what is done, with the answer, and of a New with the elements of its object
pub data Bare : Type 0 where
  Read : CellAt → ℤ → Bare
  Write : CellAt → ℤ → Bare
  New : ℕ → ℤ → Bare
  Take : ℤ → Bare
  Give : ℤ → Bare
  Freed : ℤ → Bare
  Lock : CellAt → Bare
  Unlock : CellAt → Bare
  Spawn : ℕ → ℤ → ℤ → Bare
  Started : ℤ → Bare
  Join : ℤ → Bare
  Print : ℤ → Bare
  Return : Bare
  Gone : Bare
  Enter : CellAt → Bare
  Woken : CellAt → Bare
  Signal : CellAt → ℤ → Bare
  Broadcast : CellAt → Bare

-- of a source event
abbrev pub bare : Act → ℤ → Bare
bare (acts.Read c mode) answer = Read c answer
bare (acts.Write c mode v) answer = Write c v
bare (acts.New cells elements mode) answer = New elements answer
bare (acts.Take taken kind) answer = Take answer
bare (acts.Give reference mode) answer = Give reference
bare (acts.Freed reference) answer = Freed reference
bare (acts.Lock c) answer = Lock c
bare (acts.Unlock c) answer = Unlock c
bare (acts.Spawn f v) answer = Spawn f v answer
bare (acts.Started v) answer = Started v
bare (acts.Join thread) answer = Join thread
bare (acts.Print v) answer = Print v
bare acts.Return answer = Return
bare acts.Gone answer = Gone
bare (acts.Enter c) answer = Enter c
bare (acts.Woken c) answer = Woken c
bare (acts.Signal c) answer = Signal c answer
bare (acts.Broadcast c) answer = Broadcast c

-- with the thread and the site
pub record Told : Type 0 where
  pub thread : ℕ
  pub site : Site
  pub bare : Bare

abbrev pub told_of_event : SourceEvent → Told
told_of_event e = record { thread = e.thread; site = e.site; bare = bare e.act e.answer }

abbrev pub bare_of : Option SourceEvent → Option Told
bare_of None = None
bare_of (Some e) = Some (told_of_event e)

-- ---- of an event as it is computed
abbrev pub numbered : Reference → ℤ
numbered r = reference r.number r.elements

abbrev pub valued : GivenValue → ℤ
valued (values.Int v) = v
valued (values.Reference r) = numbered r

-- the answer of a Signal
abbrev pub woken : Option ℕ → ℤ
woken None = pos 0
woken (Some thread) = pos (thread + 1)

abbrev pub shown : Deed → Bare
shown (deeds.Reads c v) = Read (at c) (valued v)
shown (deeds.Writes c v) = Write (at c) (valued v)
shown (deeds.Makes r) = New r.elements (numbered r)
shown (deeds.Takes r) = Take (numbered r)
shown (deeds.Gives r) = Give (numbered r)
shown (deeds.Frees r) = Freed (numbered r)
shown (deeds.Locks c) = Lock (at c)
shown (deeds.Unlocks c) = Unlock (at c)
shown (deeds.Spawns f v n) = Spawn f (valued v) (pos n)
shown (deeds.Starts v) = Started (valued v)
shown (deeds.Joins v) = Join v
shown (deeds.Prints v) = Print v
shown deeds.Returns = Return
shown deeds.Ends = Gone
shown (deeds.Enters c) = Enter (at c)
shown (deeds.Wakes c) = Woken (at c)
shown (deeds.Signals c thread) = Signal (at c) (woken thread)
shown (deeds.Broadcasts c) = Broadcast (at c)

abbrev pub told : Code → Event → Told
told code e = record { thread = e.thread; site = site_of code e.origin; bare = shown e.deed }

-- ---- by what is known before the step
abbrev pub value_of : Argument → ℕ → ℤ
value_of (arguments.Int v) elements = v
value_of (arguments.Reference number) elements = reference number elements

abbrev pub number_of : Argument → ℕ
number_of (arguments.Int v) = 0
number_of (arguments.Reference number) = number

abbrev pub taken : ℕ → ℕ → Option Bare
taken zero elements = None
taken (suc number) elements = Some (Take (reference (suc number) elements))

abbrev pub new_told : NewView → NewStage → Option Bare
new_told state (Length header) = Some (New state.arguments.elements (reference header state.arguments.elements))
new_told state _ = None

abbrev pub nobody_told : Where → ℕ → Option Bare
nobody_told c zero = Some (Signal (at c) (pos 0))
nobody_told c (suc found) = None

abbrev pub seen_told : Where → ℕ → ℕ → Option Bare
seen_told c seen found = if found == seen then Some (Signal (at c) (pos (lowest_of seen + 1))) else nobody_told c found

-- what may be a failed try, which is no event
abbrev pub tried : ℕ → Next → ℕ → Option Bare
tried n (nexts.Locks c) found = if found == 0 then Some (Lock (at c)) else None
tried n (nexts.Joins v) found = if found == 0 || (found == 1 || found == 2) then None else Some (Join v)
tried n (nexts.Wakes c) found = if waits_in found n then None else Some (Woken (at c))
tried n _ found = None

-- what the turn of this thread tells, where its step found this, and the object of which it speaks has this many
-- elements
abbrev pub told_of : ℕ → Next → ℕ → ℕ → Option Bare
told_of n nexts.Nothing found elements = None
told_of n (nexts.Reads c) found elements = Some (Read (at c) (int_of found))
told_of n (nexts.ReadsReference c) found elements = Some (Read (at c) (reference found elements))
told_of n (nexts.Writes c v) found elements = Some (Write (at c) v)
told_of n (nexts.WritesReference c number) found elements = Some (Write (at c) (reference number elements))
told_of n (nexts.Locks c) found elements = tried n (nexts.Locks c) found
told_of n (nexts.Unlocks c) found elements = Some (Unlock (at c))
told_of n (nexts.Joins v) found elements = tried n (nexts.Joins v) found
told_of n (nexts.Prints v) found elements = Some (Print v)
told_of n (nexts.Gives number) found elements = Some (Give (reference number elements))
told_of n (nexts.Frees number) found elements = Some (Freed (reference number elements))
told_of n (nexts.Takes number) found elements = taken number elements
told_of n (nexts.TakesCell c) found elements = Some (Take (reference found elements))
told_of n (nexts.Spawns f v number) found elements = Some (Spawn f (value_of v elements) (pos number))
told_of n (nexts.Makes state) found elements = new_told state state.stage
told_of n (nexts.Starts parameter) found elements = Some (Started (started_with parameter found elements))
told_of n nexts.Returns found elements = Some Return
told_of n nexts.Ends found elements = Some Gone
told_of n (nexts.Enters c) found elements = Some (Enter (at c))
told_of n (nexts.Wakes c) found elements = tried n (nexts.Wakes c) found
told_of n (nexts.Signals c) found elements = nobody_told c found
told_of n (nexts.SignalsSeen c seen) found elements = seen_told c seen found
told_of n (nexts.Broadcasts c) found elements = Some (Broadcast (at c))

-- the object of which it then speaks
abbrev pub spoken : Next → ℕ → ℕ
spoken (nexts.ReadsReference c) found = found
spoken (nexts.TakesCell c) found = found
spoken (nexts.Starts parameter) found = found
spoken (nexts.WritesReference c number) found = number
spoken (nexts.Gives number) found = number
spoken (nexts.Frees number) found = number
spoken (nexts.Takes number) found = number
spoken (nexts.Spawns f v n) found = number_of v
spoken _ found = 0

abbrev pub placed : ℕ → Site → Option Bare → Option Told
placed n site None = None
placed n site (Some b) = Some record { thread = n; site = site; bare = b }

abbrev pub comes : Code → ℕ → Coming → ℕ → ℕ → Option Told
comes code n c found elements = placed n (site_of code c.origin) (told_of n c.next found elements)

-- this is what is coming of a machine at this instruction: it tells what the turn says, whatever its step finds
abbrev pub IsComing : Code → Instr → Machine → Coming → Type 0
IsComing code instr m c = (found : ℕ) (elements : ℕ → ℕ)
    → comes code m.own.number c found (elements (spoken c.next found))
    ≡ bare_of (said code instr m found (elements (speaks_of instr m found)))
