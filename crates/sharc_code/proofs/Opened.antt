-- Lists of what a function gives for the first numbers.
use Rattle.sharc_code.proofs.Imports.{◌≡◌, ℕ, ◌+◌, [], ◌∷◌, ◌++◌, map, length, arith, map-range_with_len_more, length-map-range_with_len, range_with_len}

pub one_more : {X : Type 0} (f : ℕ → X) (n : ℕ) → map f (range_with_len 0 (n + 1)) ≡ map f (range_with_len 0 n) ++ f n ∷ []
one_more f n = map-range_with_len_more f 0 n n (omega arith)

pub so_many : {X : Type 0} (f : ℕ → X) (n : ℕ) → length (map f (range_with_len 0 n)) ≡ n
so_many f n = length-map-range_with_len f 0 n
