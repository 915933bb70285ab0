-- What rows of positions are to those who go over them.
use Rattle.std.specs.Prelude.{◌≡◌, ℕ, ◌+◌, ◌<◌, ◌≤◌, [], ◌∷◌, length, drop, Some}
use Rattle.sharc_mode.specs.{Cells.pointed, Moded.Assignment, Rows.{Targets, deeper, modes_of}}

-- a row of some positions is its first target, and what that points to in turn
abbrev pub BeginsWithTarget : Type 0
BeginsWithTarget = (m : Assignment) (row : Targets) → 0 < row.count → row.first + row.count ≤ length m.modes
    → modes_of m row ≡ pointed m (Some row) ∷ modes_of m (deeper row)

-- a row of no position has no mode
abbrev pub EmptyHasNone : Type 0
EmptyHasNone = (m : Assignment) (row : Targets) → row.count ≡ 0 → modes_of m row ≡ []

-- what a row points to in turn has all its modes but the first
abbrev pub DeeperDropsFirst : Type 0
DeeperDropsFirst = (m : Assignment) (row : Targets) → row.first + row.count ≤ length m.modes
    → drop 1 (modes_of m row) ≡ modes_of m (deeper row)

-- and ends where the row does
abbrev pub DeeperEndsWithin : Type 0
DeeperEndsWithin = (limit : ℕ) (row : Targets) → row.first + row.count ≤ limit
    → (deeper row).first + (deeper row).count ≤ limit

pub record RowLaws : Type 0 where
  pub begins : BeginsWithTarget
  pub empty : EmptyHasNone
  pub drops : DeeperDropsFirst
  pub ends : DeeperEndsWithin
