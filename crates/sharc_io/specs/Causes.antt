-- Counts of faults and of stalls, and the answers that come only where one of them rose.
use Rattle.std.specs.Prelude.{ℕ, ◌+◌, ◌-◌, ◌^◌, ◌≡◌, ◌<◌, ◌≤◌, ◌⊎◌, min, List, length, Result, OnErr, IfOk}

-- one more, up to 2 ^ 64 - 1, where a count stays
abbrev pub one_more : ℕ → ℕ
one_more count = min (count + 1) (2 ^ 64 - 1)

-- a count rose, or was at 2 ^ 64 - 1 before
abbrev pub Rose : ℕ → ℕ → Type 0
Rose before now = one_more before ≤ now

-- one of the two counts of a sink rose: that of its faults, or that of its stalls
abbrev pub EitherRose : ℕ → ℕ → ℕ → ℕ → Type 0
EitherRose faults_before faults_now stalls_before stalls_now = Rose faults_before faults_now
    ⊎ Rose stalls_before stalls_now

-- a count of faults never falls, and a call fails only where it rose
pub record HasCause {T E : Type 0} (before now : ℕ) (result : Result T E) : Type 0 where
  pub later : before ≤ now
  pub failed : OnErr result (Rose before now)

-- a count of stalls never falls, and none of a piece that is not empty is taken only where it rose
pub record HasStallCause {E : Type 0} (before now : ℕ) (result : Result ℕ E) (piece : List ℕ) : Type 0 where
  pub later : before ≤ now
  pub stalled : IfOk result (λ count. count ≡ 0 → 0 < length piece → Rose before now)
