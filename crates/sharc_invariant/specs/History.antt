-- What the source can see of a run, the last first, with objects, cells and modes as the world has them; and what it
-- obeys.
use Rattle.std.specs.Prelude.{ℕ, suc, ◌≡◌, ◌⊎◌, ◌≢◌, Bool, true, false, List, [], ◌∷◌}
use Rattle.sharc_code.specs.Runs.{put}
use Rattle.sharc_invariant.specs.{Granules.Passed, Types.{ObjectType, nothing, CellMode}}
use Rattle.sharc_invariant.specs.Types.CellMode.{Private, Readonly, Dynamic, Locked, Sibling}
use Rattle.sharc_invariant.specs.World.{TypeRules, RegisterOf, ObjectState, Sole, World, put2, in_ref}

pub data Event : Type 0 where
  Access : (t o i : ℕ) (k : Bool) (m : CellMode) → Event
  New : (o : ℕ) (ty : ObjectType) (t : ℕ) → Event
  Give : (o : ℕ) (ty : ObjectType) (t : ℕ) → Event
  Freed : (o : ℕ) → Event
  Lock : (t o j : ℕ) → Event
  Unlock : (o j : ℕ) → Event
  Return : (t : ℕ) → Event

abbrev pub obj_of : (ℕ → ObjectState) → List Event → ℕ → ObjectState
obj_of f [] = f
obj_of f (Access t o i k m ∷ rest) = obj_of f rest
obj_of f (New o ty t ∷ rest) = put (obj_of f rest) o (record { live = true; global = false; ty = ty; owner = t })
obj_of f (Give o ty t ∷ rest) = put (obj_of f rest) o (record { live = true; global = false; ty = ty; owner = t })
obj_of f (Freed o ∷ rest) = put (obj_of f rest) o (record { live = false; global = false; ty = nothing; owner = 0 })
obj_of f (Lock t o j ∷ rest) = obj_of f rest
obj_of f (Unlock o j ∷ rest) = obj_of f rest
obj_of f (Return t ∷ rest) = obj_of f rest

abbrev pub mutex_of : List Event → ℕ → ℕ → ℕ
mutex_of [] = λ o j. 0
mutex_of (Lock t o j ∷ rest) = put2 (mutex_of rest) o j (suc t)
mutex_of (Unlock o j ∷ rest) = put2 (mutex_of rest) o j 0
mutex_of (Access t o i k m ∷ rest) = mutex_of rest
mutex_of (New o ty t ∷ rest) = mutex_of rest
mutex_of (Give o ty t ∷ rest) = mutex_of rest
mutex_of (Freed o ∷ rest) = mutex_of rest
mutex_of (Return t ∷ rest) = mutex_of rest

-- access sets
abbrev pub IsInAccessSet : TypeRules → List Event → (o g t : ℕ) → Bool → Type 0
IsInAccessSet l [] o g t k = ⊥
IsInAccessSet l (Access u p i j m ∷ rest) o g t k = ((m ≡ Dynamic) × (p ≡ o) × (l.granule i ≡ g) × (u ≡ t) × (j ≡ k))
    ⊎ IsInAccessSet l rest o g t k
IsInAccessSet l (New p ty u ∷ rest) o g t k = (o ≢ p) × IsInAccessSet l rest o g t k
IsInAccessSet l (Give p ty u ∷ rest) o g t k = (o ≢ p) × IsInAccessSet l rest o g t k
IsInAccessSet l (Return u ∷ rest) o g t k = (t ≢ u) × IsInAccessSet l rest o g t k
IsInAccessSet l (Freed p ∷ rest) o g t k = IsInAccessSet l rest o g t k
IsInAccessSet l (Lock u p j ∷ rest) o g t k = IsInAccessSet l rest o g t k
IsInAccessSet l (Unlock p j ∷ rest) o g t k = IsInAccessSet l rest o g t k

-- what an access needs
abbrev pub Held : (ℕ → ℕ → ℕ) → ℕ → ℕ → CellMode → Type 0
Held mutex t o (Locked p j) = mutex p j ≡ suc t
Held mutex t o (Sibling j) = mutex o j ≡ suc t
Held mutex t o _ = Unit {0}

pub record Ok (l : TypeRules) (obj : ℕ → ObjectState) (mutex : ℕ → ℕ → ℕ) (t o i : ℕ) (k : Bool)
    (m : CellMode) : Type 0 where
  pub live : (obj o).live ≡ true
  pub mode : m ≡ l.mode (obj o).ty i
  pub own : m ≡ Private → (obj o).owner ≡ t
  pub reads : m ≡ Readonly → k ≡ false
  pub held : Held mutex t o m

pub record NoConflict (l : TypeRules) (log : List Event) : Type 0 where
  pub none : (o g t u : ℕ) (k : Bool) → IsInAccessSet l log o g t true → IsInAccessSet l log o g u k → t ≡ u

abbrev pub Obeys : TypeRules → (ℕ → ObjectState) → List Event → Type 0
Obeys l f [] = Unit {0}
Obeys l f (Access t o i k m ∷ rest) =
    Ok l (obj_of f rest) (mutex_of rest) t o i k m × NoConflict l (Access t o i k m ∷ rest) × Obeys l f rest
Obeys l f (e ∷ rest) = Obeys l f rest

-- an object that a thread has alone
abbrev pub Closing : World → ℕ → Type 0
Closing w o = (u : ℕ) × ((r : ℕ) × ((w.win u ≡ Sole r) × (in_ref w (RegisterOf u r) ≡ o)))

-- or that is dead
abbrev pub Without : World → ℕ → Type 0
Without w o = Closing w o ⊎ ((w.obj o).live ≡ false)

pub record Tied (l : TypeRules) (f : ℕ → ObjectState) (w : World) (log : List Event) : Type 0 where
  pub obj : w.obj ≡ obj_of f log
  pub mutex : w.mutex ≡ mutex_of log
  pub acc : (o g t : ℕ) (k : Bool) → IsInAccessSet l log o g t k → Passed (w.gran o g) t k ⊎ Without w o
  pub clean : NoConflict l log
  pub obeys : Obeys l f log
