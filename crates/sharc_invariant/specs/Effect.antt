-- The effects of turns on the world, of which each turn has one: what the layers above the world need to know of a
-- turn.
use Rattle.std.specs.Prelude.{ℕ, suc, ◌≡◌, Bool, true, false, List, [], ◌∷◌}
use Rattle.sharc_invariant.specs.{Granules.{GranuleState, Passed, cleared, withdrawn}, Types.ObjectType}
use Rattle.sharc_invariant.specs.World.{TypeRules, RegisterOf, Base, Sole, World, in_ref, put2, Right, give, make}
use Rattle.sharc_invariant.specs.World.{freed, set_gran, base_of}
use Rattle.sharc_invariant.specs.History.{Event, Access, New, Give, Freed, Lock, Unlock, Return, IsInAccessSet}

-- no object and no mutex changes, no passed check is lost, and who has an object alone has it still
pub record Silent (w w' : World) : Type 0 where
  pub obj : w'.obj ≡ w.obj
  pub mutex : w'.mutex ≡ w.mutex
  pub passed : (o g t : ℕ) (k : Bool) → Passed (w.gran o g) t k → Passed (w'.gran o g) t k
  pub sole : (u r : ℕ) → w.win u ≡ Sole r
      → (w'.win u ≡ Sole r) × (in_ref w' (RegisterOf u r) ≡ in_ref w (RegisterOf u r))

-- of a turn of thread t, which has returned or has not, and may make, give or free an object or may not
pub data Effect (l : TypeRules) (t : ℕ) (returned changes : Bool) (w w' : World) : Type 0 where
  -- nothing that the source can see
  Silently : Silent w w' → Effect l t returned changes w w'
  -- an access of data, by a thread that may make it
  Accesses : (write : Bool) (b : Base) (i : ℕ) → Right l w t write b i → ((r : ℕ) → w.win t ≡ Sole r → ⊥) → Silent w w'
      → Effect l t returned changes w w'
  -- a granule is cleared of an object that a thread has alone; the object is given, or freed
  Clears : (r g : ℕ) → w.win t ≡ Sole r
      → w' ≡ set_gran w (in_ref w (RegisterOf t r)) g (cleared (w.gran (in_ref w (RegisterOf t r)) g))
      → Effect l t returned changes w w'
  Gives : (r : ℕ) (ty : ObjectType) → changes ≡ true → w.win t ≡ Sole r → w' ≡ give w t r ty
      → Effect l t returned changes w w'
  Frees : (r : ℕ) → changes ≡ true → w.win t ≡ Sole r → w' ≡ freed w t r → Effect l t returned changes w w'
  Makes : (r o : ℕ) (ty : ObjectType) (found : ℕ → GranuleState) → changes ≡ true → (w.obj o).live ≡ false
      → in_ref w (RegisterOf t r) ≡ 0 → w' ≡ make l w (RegisterOf t r) o ty found → Effect l t returned changes w w'
  -- a mutex is taken, or given back
  Locks : (o j : ℕ) → w.mutex o j ≡ 0 → w'.mutex ≡ put2 w.mutex o j (suc t) → Silent w (record w' { mutex = w.mutex })
      → Effect l t returned changes w w'
  Unlocks : (o j : ℕ) → w.mutex o j ≡ suc t → w'.mutex ≡ put2 w.mutex o j 0 → Silent w (record w' { mutex = w.mutex })
      → Effect l t returned changes w w'
  -- a thread returns
  Returns : Silent w w' → Effect l t returned changes w w'
  -- and withdraws from a granule later, when no access of it counts
  Withdraws : (o g : ℕ) → returned ≡ true → w' ≡ set_gran w o g (withdrawn (w.gran o g) t)
      → Effect l t returned changes w w'

-- no access of a thread counts any more
abbrev pub NoneOf : TypeRules → List Event → ℕ → Type 0
NoneOf l log t = (o g : ℕ) (k : Bool) → IsInAccessSet l log o g t k → ⊥

-- what the source sees of an effect
abbrev pub events_of : (l : TypeRules) (t : ℕ) (returned changes : Bool) (w w' : World)
    → Effect l t returned changes w w' → List Event
events_of l t returned changes w w' (Silently s) = []
events_of l t returned changes w w' (Accesses write b i right alone s) =
    Access t (base_of w t b) i write (l.mode (w.obj (base_of w t b)).ty i) ∷ []
events_of l t returned changes w w' (Clears r g e q) = []
events_of l t returned changes w w' (Gives r ty c e q) = Give (in_ref w (RegisterOf t r)) ty t ∷ []
events_of l t returned changes w w' (Frees r c e q) = Freed (in_ref w (RegisterOf t r)) ∷ []
events_of l t returned changes w w' (Makes r o ty found c d n q) = New o ty t ∷ []
events_of l t returned changes w w' (Locks o j f q s) = Lock t o j ∷ []
events_of l t returned changes w w' (Unlocks o j h q s) = Unlock o j ∷ []
events_of l t returned changes w w' (Returns s) = Return t ∷ []
events_of l t returned changes w w' (Withdraws o g r q) = []
