-- The waiters' word, as the set of the threads that wait.
use Rattle.std.specs.Prelude.{◌≡◌, ℕ, ◌-◌, ◌^◌, ◌<◌, ◌==◌, ◌||◌, ◌&&◌, Bool, true, false, not, Option, Some, None}
use Rattle.std.specs.Prelude.{bit_and, if◌then◌else◌}
use Rattle.std.specs.Int.{bit_at, trailing_zeros, w64}

-- bit k is set where thread k waits
unfoldable pub waits_in : ℕ → ℕ → Bool
waits_in word thread = bit_at word thread == 1

-- the lowest-numbered waiter, where there is one
unfoldable pub lowest_of : ℕ → ℕ
lowest_of word = trailing_zeros w64 word

-- the word without its lowest-numbered waiter: all its bits but that one
unfoldable pub without_lowest : ℕ → ℕ
without_lowest word = bit_and word (2 ^ 64 - 1 - 2 ^ lowest_of word)

-- the waiter that is taken away, and the word without it
abbrev pub woken : ℕ → Option (ℕ × ℕ)
woken word = if word == 0 then None else Some (lowest_of word, without_lowest word)

-- the thread waits as well, and the others as before
abbrev pub AddsWaiter : ℕ → ℕ → ℕ → Type 0
AddsWaiter old new thread = (k : ℕ) → waits_in new k ≡ (waits_in old k || k == thread)

-- the lowest-numbered waiter waits no longer, and the others as before
pub record TakesAwayFirst (old new thread : ℕ) : Type 0 where
  pub waited : waits_in old thread ≡ true
  pub lowest : (k : ℕ) → k < thread → waits_in old k ≡ false
  pub left : (k : ℕ) → waits_in new k ≡ (waits_in old k && not (k == thread))
