-- Legal stores: lists of source events in which each event finds what those before it left.
use Rattle.std.specs.Prelude.{◌≡◌, ◌≢◌, ◌⊎◌, ℕ, ℤ, pos, neg_ℤ, ◌+◌, ◌^◌, ◌<◌, ◌==◌, Bool, true, false, ◌&&◌, ◌||◌, List}
use Rattle.std.specs.Prelude.{Option, Some, None, if◌then◌else◌}
use Rattle.std.specs.List.{list_any}
use Rattle.sharc_tree.specs.declared.event.Act.{Act}
use Rattle.sharc_tree.specs.declared.event.Act.TheVariants.{Read, Write, New, Take, Give, Freed, Lock, Unlock, Spawn}
use Rattle.sharc_tree.specs.declared.event.Act.TheVariants.{Started, Join, Print, Return, Gone, Enter, Woken, Signal}
use Rattle.sharc_tree.specs.declared.event.Act.TheVariants.{Broadcast}
use Rattle.sharc_tree.specs.{declared.event.CellAt.CellAt, declared.event.Object.Object}
use Rattle.sharc_tree.specs.{declared.event.Object.TheVariants.{Global, Made}, declared.event.SourceEvent.SourceEvent}
use Rattle.sharc_tree.specs.declared.event.Taken.TheVariants.{Cell, Local}
use Rattle.sharc_tree.specs.declared.tree.item.GlobalDefinition.{GlobalDefinition}
use Rattle.sharc_tree.specs.declared.tree.item.GlobalForm.{GlobalForm}
use Rattle.sharc_tree.specs.declared.tree.item.GlobalForm.TheVariants.{Plain, Array, Initial}
use Rattle.sharc_ctype.specs.Resolved.{Resolution, global_at}
use Rattle.sharc_meaning.specs.Events.{makes, frees, is_cell, locks, unlocks, Stands, latest}
use Rattle.sharc_meaning.specs.Reference.{reference, constant_value}

-- ---- the value of a cell

-- the cell that a Write or a Take gives a value
abbrev pub cell_changed : Act → Option CellAt
cell_changed (Write c mode v) = Some c
cell_changed (Take (Cell c mode) kind) = Some c
cell_changed _ = None

-- the event gives the cell a value: a New gives all cells of its object their first
abbrev pub changes : CellAt → SourceEvent → Bool
changes c e = is_cell c (cell_changed e.act) || makes c.object e

-- a Take leaves NULL, a New 0 or NULL
abbrev pub value_left : Act → ℤ
value_left (Write c mode v) = v
value_left _ = pos 0

abbrev pub form_value : GlobalForm → ℤ
form_value Plain = pos 0
form_value (Array at count) = pos 0
form_value (Initial span minus c) = if minus then neg_ℤ (constant_value c) else constant_value c

abbrev pub global_value : Option GlobalDefinition → ℤ
global_value None = pos 0
global_value (Some g) = form_value g.form

abbrev pub initial_value : Resolution → Object → ℤ
initial_value r (Global g) = global_value (global_at r g)
initial_value r (Made n) = pos 0

abbrev pub value_by : ℤ → Option SourceEvent → ℤ
value_by initial None = initial
value_by initial (Some e) = value_left e.act

-- the last value that was given to the cell, else its initial value
abbrev pub value_after : Resolution → List SourceEvent → CellAt → ℤ
value_after r before c = value_by (initial_value r c.object) (latest (changes c) before)

-- ---- objects, mutexes, threads and waiters

-- that the last event of some kind is there and meets a test
abbrev pub meets : (SourceEvent → Bool) → Option SourceEvent → Bool
meets test None = false
meets test (Some e) = test e

-- an object is live from its New to its Freed
abbrev pub is_live : List SourceEvent → Object → Bool
is_live before o = meets (makes o) (latest (λ e. makes o e || frees o e) before)

-- the last event of the mutex is a Lock
abbrev pub is_locked : List SourceEvent → CellAt → Bool
is_locked before c = meets (locks c) (latest (λ e. locks c e || unlocks c e) before)

-- its last Lock is this thread's
abbrev pub was_locked_by : List SourceEvent → CellAt → ℕ → Bool
was_locked_by before c thread = meets (λ e. e.thread == thread) (latest (locks c) before)

abbrev pub is_natural : ℕ → ℤ → Bool
is_natural n (pos m) = n == m
is_natural n _ = false

abbrev pub is_spawn : Act → Bool
is_spawn (Spawn f v) = true
is_spawn _ = false

-- a Spawn answered this number
abbrev pub spawns : ℕ → SourceEvent → Bool
spawns thread e = is_spawn e.act && is_natural thread e.answer

abbrev pub was_spawned : List SourceEvent → ℕ → Bool
was_spawned before thread = list_any (spawns thread) before

abbrev pub is_gone : Act → Bool
is_gone Gone = true
is_gone _ = false

abbrev pub went : List SourceEvent → ℤ → Bool
went before thread = list_any (λ e. is_gone e.act && is_natural e.thread thread) before

-- the thread made itself a waiter of the cell, or was taken away from there

abbrev pub entered : Act → Option CellAt
entered (Enter c) = Some c
entered _ = None

abbrev pub signalled : Act → Option CellAt
signalled (Signal c) = Some c
signalled _ = None

abbrev pub broadcast_on : Act → Option CellAt
broadcast_on (Broadcast c) = Some c
broadcast_on _ = None

abbrev pub enters : CellAt → ℕ → SourceEvent → Bool
enters c thread e = is_cell c (entered e.act) && e.thread == thread

abbrev pub takes_away : CellAt → ℕ → SourceEvent → Bool
takes_away c thread e =
    (is_cell c (signalled e.act) && is_natural (thread + 1) e.answer) || is_cell c (broadcast_on e.act)

-- a thread waits at a cell where it made Enter on it and was not taken away since
abbrev pub is_waiter : List SourceEvent → CellAt → ℕ → Bool
is_waiter before c thread = meets (enters c thread) (latest (λ e. enters c thread e || takes_away c thread e) before)

-- ---- what each event asks of those before it

-- the answer is a reference to an object with a number that no live object has, and with the elements asked for
pub record IsFresh (before : List SourceEvent) (elements : ℕ) (answer : ℤ) : Type 0 where
  pub number : ℕ
  pub refers : answer ≡ reference number elements
  pub above : 0 < number
  pub below : number < 2 ^ 32
  pub fresh : is_live before (Made number) ≡ false

-- the answer is a number that is not 0 and that no earlier Spawn answered
pub record IsNewThread (before : List SourceEvent) (answer : ℤ) : Type 0 where
  pub thread : ℕ
  pub tells : answer ≡ pos thread
  pub other : thread ≢ 0
  pub fresh : was_spawned before thread ≡ false

abbrev pub NobodyWaits : List SourceEvent → CellAt → Type 0
NobodyWaits before c = (thread : ℕ) → is_waiter before c thread ≡ false

-- the answer is the lowest waiter plus 1
pub record IsLowest (before : List SourceEvent) (c : CellAt) (answer : ℤ) : Type 0 where
  pub thread : ℕ
  pub tells : answer ≡ pos (thread + 1)
  pub waits : is_waiter before c thread ≡ true
  pub lowest : (lower : ℕ) → lower < thread → is_waiter before c lower ≡ false

abbrev pub Signals : List SourceEvent → CellAt → ℤ → Type 0
Signals before c answer = ((answer ≡ pos 0) × NobodyWaits before c) ⊎ IsLowest before c answer

abbrev pub MayCome : Resolution → List SourceEvent → SourceEvent → Act → Type 0
MayCome r before e (Read c mode) = e.answer ≡ value_after r before c
MayCome r before e (Write c mode v) = Unit {0}
MayCome r before e (New cells elements mode) = IsFresh before elements e.answer
MayCome r before e (Take (Cell c mode) kind) = e.answer ≡ value_after r before c
MayCome r before e (Take (Local x) kind) = Unit {0}
MayCome r before e (Give reference mode) = Unit {0}
MayCome r before e (Freed reference) = Unit {0}
MayCome r before e (Lock c) = is_locked before c ≡ false
MayCome r before e (Unlock c) = was_locked_by before c e.thread ≡ true
MayCome r before e (Spawn f v) = IsNewThread before e.answer
MayCome r before e (Started v) = Unit {0}
MayCome r before e (Join thread) = went before thread ≡ true
MayCome r before e (Print v) = Unit {0}
MayCome r before e Return = Unit {0}
MayCome r before e Gone = Unit {0}
MayCome r before e (Enter c) = Unit {0}
MayCome r before e (Woken c) = is_waiter before c e.thread ≡ false
MayCome r before e (Signal c) = Signals before c e.answer
MayCome r before e (Broadcast c) = Unit {0}

-- each event may come after those before it
abbrev pub LegalStore : Resolution → List SourceEvent → Type 0
LegalStore r R = (before : List SourceEvent) (e : SourceEvent) (after : List SourceEvent) → Stands R before e after
    → MayCome r before e e.act
