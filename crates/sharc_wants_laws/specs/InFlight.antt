-- References that are in flight: a thread gives one up on its way from its last event to what it wants next, its stop
-- or its end, and has not lowered it yet.
use Rattle.std.specs.Prelude.{ℕ, ◌≡◌, List, map, Contains}
use Rattle.sharc_tree.specs.declared.event.SourceEvent.{SourceEvent}
use Rattle.sharc_mode.specs.Moded.{Assignment}
use Rattle.sharc_meaning.specs.{declared.given.GivenUp.TheVariants.Emptied, Events.events_of}
use Rattle.sharc_meaning.specs.{References.{Begun, asked_with}, Runs.by}
use Rattle.sharc_code.specs.{declared.code.Code.Code, declared.shape.Shape.Shape, Machine.Machine, Runs.Global}
use Rattle.sharc_invariant.specs.{MachineInvariant.cell_refers, Types.Targets, Words.{register_of, staged_of}}
use Rattle.sharc_invariant.specs.World.{ObjectState}
use Rattle.sharc_wants_laws.specs.{Emptying.IsEmptying, Holding.{IsGivenUpLater, IsOldValue}}

-- with this fuel the thread has asked for all events that are its own, so what it has given up then it has given up
-- since its last event
abbrev pub IsPastEvents : {m : Assignment} {R : List SourceEvent} {thread : ℕ} → Begun m R thread → ℕ → Type 0
IsPastEvents {m} {R} {thread} b fuel = map (by thread) (asked_with b fuel).events ≡ events_of thread b.own.after

-- A reference to the object of number n that a thread gives up: a local or a temporary that ends or is overwritten, or
-- the log of a mutex, after all that it has lowered; the old value of a pointer cell that it has written, which it
-- lowers next; or one that it has taken out of a pointer cell of an object that it is freeing, and has in hand.
pub data IsInFlight (code : Code) (at : Machine) (lowered : List ℕ) {m : Assignment} {R : List SourceEvent} {thread : ℕ}
    (b : Begun m R thread) (n : ℕ) : Type 0 where
  is_given : (fuel : ℕ) → IsPastEvents b fuel → IsGivenUpLater (asked_with b fuel).given_up lowered n
      → IsInFlight code at lowered b n
  is_replaced : (fuel k : ℕ) → IsPastEvents b fuel → register_of code at k ≡ n
      → IsOldValue code at (asked_with b fuel).given_up lowered k → IsInFlight code at lowered b n
  is_emptied : (fuel : ℕ) → IsPastEvents b fuel → IsEmptying code (asked_with b fuel) at → staged_of at.own.stage ≡ n
      → IsInFlight code at lowered b n

-- Or one that is still in such a cell: the thread gives up the pointer cells of an object, of which one refers to that
-- object.
pub record IsInFreed (x : Targets) (s : Shape) (g : Global Machine) (obj : ℕ → ObjectState) {m : Assignment}
    {R : List SourceEvent} {thread : ℕ} (b : Begun m R thread) (n : ℕ) : Type 0 where
  pub fuel : ℕ
  pub past : IsPastEvents b fuel
  pub object : ℕ
  pub cell : ℕ
  pub given : Contains (asked_with b fuel).given_up (Emptied object)
  pub refers_there : cell_refers x s g obj object cell ≡ n
