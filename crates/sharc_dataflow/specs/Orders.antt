-- Warnings in order, and the first of each read, as they are found. It retraces the code: what is answered is AreFirsts
-- of Uses.
use Rattle.std.specs.Prelude.{ℕ, ◌==◌, Bool, false, List, [], ◌∷◌, Option, Some, None, if◌then◌else◌}
use Rattle.std.specs.{Ordering.{nat_cmp, ordering_then}, declared.cmp.Ordering.Ordering}
use Rattle.std.specs.List.Sorted.{IsPermutation, IsSortedByKey}
use Rattle.sharc_dataflow.specs.declared.way.FlowWarning.{FlowWarning}

abbrev pub read_and_since : FlowWarning → ℕ × ℕ
read_and_since w = (w.read, w.since)

-- by the read, then by the nulling
abbrev pub by_read : ℕ × ℕ → ℕ × ℕ → Ordering
by_read a b = ordering_then (nat_cmp a.0 b.0) (nat_cmp a.1 b.1)

pub record IsInOrder (found sorted : List FlowWarning) : Type 0 where
  pub each_once : IsPermutation found sorted
  pub in_order : IsSortedByKey read_and_since by_read sorted

abbrev pub is_read : Option ℕ → ℕ → Bool
is_read None r = false
is_read (Some q) r = q == r

-- those that do not warn of the same read as the one before, where one that warned of `last` comes before the first
abbrev pub first_each : Option ℕ → List FlowWarning → List FlowWarning
first_each last [] = []
first_each last (w ∷ rest) = if is_read last w.read then first_each last rest else w ∷ first_each (Some w.read) rest
