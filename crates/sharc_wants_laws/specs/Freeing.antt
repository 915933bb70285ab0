-- A thread that has taken an object to free it frees it next: of histories.
use Rattle.std.specs.Prelude.{◌≡◌, ℕ, true, List, [], ◌∷◌, ◌++◌, map}
use Rattle.sharc_tree.specs.{declared.event.Object.TheVariants.Made, declared.event.SourceEvent.SourceEvent}
use Rattle.sharc_mode.specs.Moded.{Assignment}
use Rattle.sharc_meaning.specs.{declared.given.GivenUp.GivenUp, declared.given.GivenUp.TheVariants.Emptied}
use Rattle.sharc_meaning.specs.{Events.events_of, Frees.EmptiesAtNext, Runs.by, Store.is_live}
use Rattle.sharc_meaning.specs.References.{refers, taken_to_free, is_taken_to_free, Begun, asked_with}

-- This thread has taken the object to free it. Where it follows the program, that is its last event, and it wants to
-- free the object.
pub record IsBeingTaken (m : Assignment) (R : List SourceEvent) (n : ℕ) : Type 0 where
  pub thread : ℕ
  pub has_events : events_of thread R ≡ [] → ⊥
  pub event : SourceEvent
  pub kind : taken_to_free event.act ≡ true
  pub refers_there : refers n event.answer ≡ true
  pub last : Begun m R thread → (before : List SourceEvent) × (events_of thread R ≡ before ++ event ∷ [])
  pub empties : (b : Begun m R thread) → EmptiesAtNext (asked_with b b.fuel) n

-- A live object that a `free` has taken is being taken. No more is asked of the history.
abbrev pub TakenAreBeingTaken : Type 0
TakenAreBeingTaken = (m : Assignment) (R : List SourceEvent) (n : ℕ) → is_live R (Made n) ≡ true
    → is_taken_to_free R n ≡ true → IsBeingTaken m R n

-- The last event of this thread takes the object to free it.
pub record TakesLast (R : List SourceEvent) (thread n : ℕ) : Type 0 where
  pub before : List SourceEvent
  pub event : SourceEvent
  pub last : events_of thread R ≡ before ++ event ∷ []
  pub kind : taken_to_free event.act ≡ true
  pub refers_there : refers n event.answer ≡ true

-- Then it wants to free the object, and holds it.
abbrev pub LastTakersFree : Type 0
LastTakersFree = (m : Assignment) (R : List SourceEvent) (thread n : ℕ) → TakesLast R thread n
    → (b : Begun m R thread) → EmptiesAtNext (asked_with b b.fuel) n

-- So it is of a thread that has asked for its events, with some fuel, and has given up the cells of the object last of
-- all.
abbrev pub EmptiersTookLast : Type 0
EmptiersTookLast = (m : Assignment) (R : List SourceEvent) (thread : ℕ) (b : Begun m R thread) (fuel : ℕ)
    → map (by thread) (asked_with b fuel).events ≡ events_of thread b.own.after
    → (before : List GivenUp) (n : ℕ) → (asked_with b fuel).given_up ≡ before ++ Emptied n ∷ [] → TakesLast R thread n
