-- The order of the cases.
use Rattle.std.specs.{Prelude.{ℕ, List}, Ordering.{nat_cmp, ordering_then}, declared.cmp.Ordering.Ordering}
use Rattle.std.specs.List.Sorted.{IsPermutation, IsSortedByKey, IsStableByKey}
use Rattle.sharc_mode.specs.{declared.error.ModeError.ModeError, Errors.number_of}

-- its place, and its code
abbrev pub place_and_code : ModeError → ℕ × ℕ
place_and_code e = (e.site.token, number_of e.code)

-- by place, then by code
abbrev pub by_place : ℕ × ℕ → ℕ × ℕ → Ordering
by_place a b = ordering_then (nat_cmp a.0 b.0) (nat_cmp a.1 b.1)

-- the cases that were found, in order; those of one place and code stay as they were found
pub record IsInOrder (found sorted : List ModeError) : Type 0 where
  pub each_once : IsPermutation found sorted
  pub in_order : IsSortedByKey place_and_code by_place sorted
  pub stable : IsStableByKey place_and_code by_place found sorted
