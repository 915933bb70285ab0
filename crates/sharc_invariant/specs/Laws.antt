-- The laws of the invariant, with no call at hand.
use Rattle.std.specs.Prelude.{ℕ, ◌≡◌, ◌≢◌, ◌<◌, ◌⊎◌, ◌++◌, Bool, true, false, List, [], ◌∷◌}
use Rattle.sharc_code.specs.{declared.code.Code.Code, declared.shape.Shape.Shape, Layout.Fits}
use Rattle.sharc_code.specs.Machine.{Machine, instr_at, is_of_null, layout_at, pointer_cell}
use Rattle.sharc_code.specs.{Runs.{Turn, Global, MayTurn, after_turn, at, IsRun}, Whole.{one_thread, bounds}}
use Rattle.sharc_code.specs.declared.instr.Cell.{Cell}
use Rattle.sharc_invariant.specs.{Types.{Targets, Field}, Labels.Labels}
use Rattle.sharc_invariant.specs.{Typed.{IsWellTyped, HasField, IsLayout, Accesses}, Cells.IsThere}
use Rattle.sharc_invariant.specs.World.{TypeRules, ObjectState, World, Size, WorldInvariant, Right}
use Rattle.sharc_invariant.specs.Words.{lang_of, has_returned}
use Rattle.sharc_invariant.specs.State.{State, IsSmall, OnHold, all_pointers, base_of_cell, number_in}
use Rattle.sharc_invariant.specs.{Effect.{Effect, events_of, NoneOf}, History.{Event, Return, Tied}}
use Rattle.sharc_invariant.specs.Opened.{first_world, first_place}
use Rattle.sharc_invariant.specs.Objects.{changes_objects, objects_now, objects_after}
use Rattle.sharc_invariant.specs.{MachineInvariant.{MachineInvariant, IsOn}, Bits.{marks_after, AllBitsStand}}

-- the state behind a turn: a world with the invariant, and what has become of the world
abbrev pub Turned : Targets → Code → Shape → Labels → Global Machine → World → Turn → Type 0
Turned x code s ls g world tr = (w' : World) × State x code s ls (after_turn bounds (one_thread code s) g tr) w'
    × Effect (lang_of x) tr.thread (has_returned (g.threads tr.thread))
    (changes_objects (instr_at code (g.threads tr.thread).at.pc) (g.threads tr.thread)) world w'

-- a thread that has returned behind its turn had returned before, and tells nothing, or returns by the turn
abbrev pub EndsWith : (before after : Bool) (t : ℕ) → List Event → Type 0
EndsWith before after t events = after ≡ true → ((before ≡ true) × (events ≡ [])) ⊎ (events ≡ Return t ∷ [])

-- each turn leads to such a state; its objects are those that the turn says
pub record Followed (x : Targets) (code : Code) (s : Shape) (ls : Labels) (g : Global Machine) (world : World)
    (tr : Turn) : Type 0 where
  pub turned : Turned x code s ls g world tr
  pub ends : EndsWith (has_returned (g.threads tr.thread))
      (has_returned ((after_turn bounds (one_thread code s) g tr).threads tr.thread)) tr.thread
      (events_of (lang_of x) tr.thread (has_returned (g.threads tr.thread))
      (changes_objects (instr_at code (g.threads tr.thread).at.pc) (g.threads tr.thread)) world turned.0 turned.2)
  pub objects : turned.0.obj ≡ objects_now code s ls g tr world.obj

-- each turn keeps the invariant
abbrev pub Keeps : Type 0
Keeps = (x : Targets) (code : Code) (s : Shape) (ls : Labels) → IsWellTyped x code ls → Fits code s → IsSmall code s
    → (g : Global Machine) (world : World) → State x code s ls g world
    → (tr : Turn) → MayTurn bounds (one_thread code s) g tr → Followed x code s ls g world tr

-- the code begins in it
abbrev pub Begins : Type 0
Begins = (x : Targets) (code : Code) (s : Shape) (ls : Labels) → IsWellTyped x code ls → Fits code s
    → State x code s ls (first_place code s) (first_world x)

-- every effect on the world keeps the source events in the sharing rules, where no access of a thread that has returned
-- counts
abbrev pub EventsObey : Type 0
EventsObey = (z : Size) (l : TypeRules) (f : ℕ → ObjectState) (w w' : World) (log : List Event) → WorldInvariant z l w
    → Tied l f w log
    → (t : ℕ) (returned changes : Bool) → (returned ≡ true → NoneOf l log t)
    → (e : Effect l t returned changes w w') → Tied l f w' (events_of l t returned changes w w' e ++ log)

-- ---- runs
-- no access of a thread that has returned counts
abbrev pub NoneReturned : TypeRules → List Event → Global Machine → Type 0
NoneReturned l log g = (t : ℕ) → has_returned (g.threads t) ≡ true → NoneOf l log t

-- where a run stands: the invariant, and a history that obeys the sharing rules, whose last events are those of the run
pub record StandsAfter (x : Targets) (code : Code) (s : Shape) (ls : Labels) (f : ℕ → ObjectState) (log : List Event)
    (g : Global Machine) : Type 0 where
  pub world : World
  pub state : State x code s ls g world
  pub events : List Event
  pub tied : Tied (lang_of x) f world (events ++ log)
  pub returned : NoneReturned (lang_of x) (events ++ log) g

-- which objects there are is told by the turns
pub record StandsBehind (x : Targets) (code : Code) (s : Shape) (ls : Labels) (f : ℕ → ObjectState) (log : List Event)
    (from : Global Machine) (obj : ℕ → ObjectState) (turns : List Turn) : Type 0 where
  pub stands : StandsAfter x code s ls f log (at bounds (one_thread code s) from turns)
  pub objects : stands.world.obj ≡ objects_after code s ls from obj turns

-- from every place in the invariant each run, of all threads in every order, stays in it and obeys the rules
abbrev pub RunsStay : Type 0
RunsStay = (x : Targets) (code : Code) (s : Shape) (ls : Labels) → IsWellTyped x code ls → Fits code s → IsSmall code s
    → (f : ℕ → ObjectState) (log : List Event) (g : Global Machine) (world : World) → State x code s ls g world
    → Tied (lang_of x) f world log → NoneReturned (lang_of x) log g
    → (turns : List Turn) → IsRun bounds (one_thread code s) g turns → StandsBehind x code s ls f log g world.obj turns

-- and so does each from the beginning, with nothing in its history but its own events
abbrev pub RunsFromTheBeginning : Type 0
RunsFromTheBeginning = (x : Targets) (code : Code) (s : Shape) (ls : Labels) → IsWellTyped x code ls → Fits code s
    → IsSmall code s
    → (turns : List Turn) → IsRun bounds (one_thread code s) (first_place code s) turns
    → StandsBehind x code s ls (first_world x).obj [] (first_place code s) (first_world x).obj turns

-- the history of a code that has made no turn
abbrev pub NothingYet : Type 0
NothingYet = (x : Targets) → Tied (lang_of x) (first_world x).obj (first_world x) []

-- ---- cells
-- a cell that an instruction names, of an object that is not NULL, is there where its place's label stands
abbrev pub CellsAreThere : Type 0
CellsAreThere = (x : Targets) (code : Code) (s : Shape) (ls : Labels) → IsWellTyped x code ls → Fits code s
    → (g : Global Machine) (world : World) (st : State x code s ls g world)
    → (t : ℕ) → IsOn g t → OnHold (g.threads t).own.stage
    → (c : Cell) (f : Field) → HasField x code (ls.at (g.threads t).at.pc) c f → is_of_null (g.threads t) c ≡ false
    → IsThere x s st.cells world t (g.threads t) c f

-- and so is each pointer of an object that a layout of its type lists
abbrev pub PointersAreThere : Type 0
PointersAreThere = (x : Targets) (code : Code) (s : Shape) (ls : Labels) → IsWellTyped x code ls → Fits code s
    → (g : Global Machine) (world : World) (st : State x code s ls g world)
    → (o layout target i : ℕ) → o ≢ 0 → (world.obj o).live ≡ true → (world.obj o).ty.target ≡ target
    → IsLayout x code layout target → i < all_pointers code layout (st.elements o)
    → pointer_cell code (layout_at code layout) i < st.cells o

-- an access that typed code may make is one that its thread has a right to
abbrev pub AccessesAreAllowed : Type 0
AccessesAreAllowed = (x : Targets) (code : Code) (s : Shape) (ls : Labels) → IsWellTyped x code ls → Fits code s
    → (g : Global Machine) (world : World) (st : State x code s ls g world)
    → (t : ℕ) → IsOn g t → OnHold (g.threads t).own.stage
    → (write : Bool) (c : Cell) (site : ℕ) (f : Field) → Accesses x code ls (ls.at (g.threads t).at.pc) write c site f
    → Right (lang_of x) world t write (base_of_cell (g.threads t) c) (number_in (g.threads t) c)

-- ---- what stands at each place
-- of counts and of references, in the invariant
abbrev pub StateStands : Type 0
StateStands = (x : Targets) (code : Code) (s : Shape) (ls : Labels) → IsWellTyped x code ls → Fits code s
    → (g : Global Machine) (world : World) → State x code s ls g world → MachineInvariant x code s ls g world.obj

-- and so at each place of each run of typed code
abbrev pub RunsStand : Type 0
RunsStand = (x : Targets) (code : Code) (s : Shape) (ls : Labels) → IsWellTyped x code ls → Fits code s → IsSmall code s
    → (turns : List Turn) → IsRun bounds (one_thread code s) (first_place code s) turns
    → MachineInvariant x code s ls (at bounds (one_thread code s) (first_place code s) turns)
    (objects_after code s ls (first_place code s) (first_world x).obj turns)

-- of the bits, at each place of each run of typed code
abbrev pub RunsBits : Type 0
RunsBits = (x : Targets) (code : Code) (s : Shape) (ls : Labels) → IsWellTyped x code ls → Fits code s → IsSmall code s
    → (turns : List Turn) → IsRun bounds (one_thread code s) (first_place code s) turns
    → AllBitsStand s (at bounds (one_thread code s) (first_place code s) turns).words
    (marks_after code s (first_place code s) turns)
