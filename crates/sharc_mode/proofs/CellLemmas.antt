-- The first target of a row.
use Rattle.sharc_mode.proofs.Imports.{◌≡◌, ℕ, zero, suc, ◌<◌, List, [], ◌∷◌, take, drop, map, refl, sym, arith, get_or as slice_index_or, Mode, Private, first_of, Assignment, mode_at, Targets, read, modes_of, Sharing, private, sharing_of}

first_at : (f : Mode → Sharing) (modes : List Mode) (first count : ℕ) → f Private ≡ private → first_of (map f (take (suc count) (drop first modes))) ≡ f (slice_index_or modes first Private)
first_at f [] zero count e = sym e
first_at f [] (suc k) count e = sym e
first_at f (x ∷ xs) zero count e = refl
first_at f (x ∷ xs) (suc k) count e = first_at f xs k count e

by_count : (f : Mode → Sharing) (modes : List Mode) (first count : ℕ) → 0 < count → f Private ≡ private → first_of (map f (take count (drop first modes))) ≡ f (slice_index_or modes first Private)
by_count f modes first zero h e = absurd (omega arith)
by_count f modes first (suc k) h e = first_at f modes first k e

pub first_is : (m : Assignment) (row : Targets) → 0 < row.count → first_of (modes_of m row) ≡ read m.typed row.reading (mode_at m row.first)
first_is m row h = by_count (λ mode. read m.typed row.reading (sharing_of mode)) m.modes row.first row.count h refl
