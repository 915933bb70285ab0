-- The numbers that a chooser draws.
use Rattle.std.specs.Prelude.{ℕ, ◌+◌, ◌*◌, ◌/◌, ◌%◌, ◌^◌, ◌<◌, ◌≤◌, bit_xor}

-- the upper bits of a word are mixed into the lower ones
abbrev pub mixed : ℕ → ℕ
mixed x = bit_xor x (x / 2 ^ 33)

-- the word of this turn, by the number that was given: all arithmetic is modulo 2 ^ 64
abbrev pub drawn : ℕ → ℕ → ℕ
drawn number i = (number + (i + 1) % 2 ^ 64 * 6364136223846793005 % 2 ^ 64) % 2 ^ 64

abbrev pub mixed_word : ℕ → ℕ
mixed_word x = mixed (mixed x * 18397679294719823053 % 2 ^ 64)

-- the place of turn i among n
unfoldable pub seeded : ℕ → ℕ → ℕ → ℕ
seeded number i n = mixed_word (drawn number i) / 2 ^ 32 % n

-- a closure may be called with the number of each turn and each number of threads, and answers a place among this many
pub record Chooses {F : Type 0} (pre : F → ℕ → ℕ → Type 0) (post : F → ℕ → ℕ → ℕ → Type 0) (f : F) : Type 0 where
  pub may : (i n : ℕ) → i < 2 ^ 64 → 1 ≤ n → n < 2 ^ 64 → pre f i n
  pub below : (i n r : ℕ) → i < 2 ^ 64 → 1 ≤ n → n < 2 ^ 64 → post f i n r → r < n
