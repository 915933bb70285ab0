-- A word with one bit set.
use Rattle.sharc_ctype.proofs.Imports.{◌≡◌, ◌≢◌, ℕ, ◌*◌, ◌^◌, ◌%◌, ◌<◌, bit_or, w64, bit_at_set_same, bit_at_set_other, bit_at}

pub set_same : (word bit : ℕ) → bit < 64 → bit_at (bit_or word (1 * 2 ^ bit % 2 ^ 64)) bit ≡ 1
set_same word bit within = bit_at_set_same w64 word bit within

pub set_other : (word bit : ℕ) → bit < 64 → (i : ℕ) → i ≢ bit → bit_at (bit_or word (1 * 2 ^ bit % 2 ^ 64)) i ≡ bit_at word i
set_other word bit within i other = bit_at_set_other w64 word bit within i other
