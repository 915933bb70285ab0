-- The size of a block.
use Rattle.std.specs.{Prelude.{ℕ, zero, suc, ◌+◌, ◌*◌, ◌/◌, ◌^◌, ◌≤◌, nat_le, if◌then◌else◌}, Int.IsPowerOfTwo}

-- the granules that an object of this many cells takes: its header, and two cells to a granule
abbrev pub granules_of : ℕ → ℕ
granules_of cells = 1 + (cells + 1) / 2

-- the least power of two in which they have room
pub record IsBlock (cells block : ℕ) : Type 0 where
  pub power : IsPowerOfTwo block
  pub room : granules_of cells ≤ block
  pub least : (k : ℕ) → granules_of cells ≤ 2 ^ k → block ≤ 2 ^ k

-- the power doubled until there is room for this many granules, this many times at most
unfoldable pub doubled : ℕ → ℕ → ℕ → ℕ
doubled zero power granules = power
doubled (suc more) power granules = if nat_le granules power then power else doubled more (2 * power) granules

-- the block for this many cells, of which there are at most 2 ^ 32
unfoldable pub block_of : ℕ → ℕ
block_of cells = doubled 32 1 (granules_of cells)
