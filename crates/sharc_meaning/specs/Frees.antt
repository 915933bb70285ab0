-- What a `free` has taken is freed next, and what its cells hold is given up before.
use Rattle.std.specs.Prelude.{◌≡◌, ℕ, ℤ, pos, Bool, true, false, not, ◌&&◌, List, [], ◌∷◌, ◌++◌, get_or}
use Rattle.sharc_tree.specs.declared.event.Act.TheVariants.{Freed}
use Rattle.sharc_tree.specs.declared.event.SourceEvent.{SourceEvent}
use Rattle.sharc_mode.specs.Moded.{Assignment}
use Rattle.sharc_meaning.specs.{declared.given.GivenUp.GivenUp, declared.given.GivenUp.TheVariants.Emptied}
use Rattle.sharc_meaning.specs.{Events.Stands, Meaning.{Asked, asks}, Reference.{is_null, number_of}}
use Rattle.sharc_meaning.specs.{References.taken_to_free, State.wants}

-- it takes something to free it: NULL is nothing
abbrev pub takes_something : SourceEvent → Bool
takes_something e = taken_to_free e.act && not (is_null e.answer)

-- The event that it wants frees the object of this number, which it holds, and the references in the cells of that are
-- given up already, last of all.
pub record EmptiesAtNext (a : Asked) (n : ℕ) : Type 0 where
  pub before : List GivenUp
  pub given_is : a.given_up ≡ before ++ Emptied n ∷ []
  pub event : SourceEvent
  pub wanted : a.outcome ≡ wants event
  pub reference : ℤ
  pub act : event.act ≡ Freed reference
  pub number : number_of reference ≡ n
  pub some : is_null reference ≡ false
  pub held : (k : ℕ) × (get_or a.held k (pos 0) ≡ reference)

-- Each event that takes something to free it is followed by the one that frees it, or is the last: then that one is
-- wanted.
pub record FreesFollowIn (a : Asked) : Type 0 where
  pub followed : (before : List SourceEvent) (e d : SourceEvent) (after : List SourceEvent)
      → Stands a.events before e (d ∷ after) → takes_something e ≡ true → d.act ≡ Freed e.answer
  pub last : (before : List SourceEvent) (e : SourceEvent) → Stands a.events before e [] → takes_something e ≡ true
      → EmptiesAtNext a (number_of e.answer)

-- of each program, function, argument, list of answers and fuel
abbrev pub FreesFollow : Type 0
FreesFollow = (m : Assignment) (f : ℕ) (argument : ℤ) (answers : List ℤ) (fuel : ℕ)
    → FreesFollowIn (asks m f argument answers fuel)

-- its last event takes the object of this number to free it
pub record WasTaken (a : Asked) (n : ℕ) : Type 0 where
  pub before : List SourceEvent
  pub event : SourceEvent
  pub stands : Stands a.events before event []
  pub takes : takes_something event ≡ true
  pub number : number_of event.answer ≡ n

-- so it is where the cells of the object are given up last of all
abbrev pub EmptiedWereTaken : Type 0
EmptiedWereTaken = (m : Assignment) (f : ℕ) (argument : ℤ) (answers : List ℤ) (fuel : ℕ) (before : List GivenUp) (n : ℕ)
    →
    let a = asks m f argument answers fuel in a.given_up ≡ before ++ Emptied n ∷ [] → WasTaken a n
