-- Truth values and lists, for any use.
use Rattle.sharc_schedule.proofs.Imports.{ℕ, suc, ◌≤◌, Bool, true, false, List, [], ◌∷◌, length, filter, arith, if◌then◌else◌}

pub filter_less : (f : ℕ → Bool) (xs : List ℕ) → length (filter f xs) ≤ length xs
filter_less f [] = omega arith
filter_less f (x ∷ xs) = by (f x) (filter_less f xs) where
  by : (b : Bool) → length (filter f xs) ≤ length xs → length (if b then x ∷ filter f xs else filter f xs) ≤ suc (length xs)
  by true r = omega arith
  by false r = omega arith
