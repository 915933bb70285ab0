-- What is an element of a list, and what holds of each.
use Rattle.sharc_accepted_laws.proofs.Imports.{◌≡◌, ℕ, zero, suc, List, [], ◌∷◌, map, get_or as slice_index_or, refl, AllByRecursion}

pub each_mapped : {A B : Type 0} (P : B → Type 0) (f : A → B) (list : List A) → AllByRecursion P (map f list) → AllByRecursion (λ x. P (f x)) list
each_mapped P f [] h = tt
each_mapped P f (x ∷ rest) h = (h.0, each_mapped P f rest h.1)

-- at each place, also past the end
pub at_place : {A : Type 0} (P : A → Type 0) (list : List A) (d : A) → P d → AllByRecursion P list → (k : ℕ) → P (slice_index_or list k d)
at_place P [] d none h k = none
at_place P (x ∷ rest) d none h zero = h.0
at_place P (x ∷ rest) d none h (suc k) = at_place P rest d none h.1 k

pub map_at : {A B : Type 0} (f : A → B) (list : List A) (d : A) (k : ℕ) → slice_index_or (map f list) k (f d) ≡ f (slice_index_or list k d)
map_at f [] d k = refl
map_at f (x ∷ rest) d zero = refl
map_at f (x ∷ rest) d (suc k) = map_at f rest d k
