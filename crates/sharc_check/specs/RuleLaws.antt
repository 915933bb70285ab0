-- A program is well-moded exactly where it meets the rules.
use Rattle.std.specs.Prelude.{◌≡◌, ◌↔◌, ℕ, Bool, true}
use Rattle.sharc_ctype.specs.{Reaches.{Spawns, IsReached}, Resolved.Resolution}
use Rattle.sharc_mode.specs.{Moded.Assignment, WellModed.{WellModed, is_spawned}}
use Rattle.sharc_check.specs.Rules.{MeetsRules}

-- of every program with a mode for each of its positions, or for some
abbrev pub RulesAreMet : Type 0
RulesAreMet = (m : Assignment) → WellModed m ↔ MeetsRules m

-- a function passes the test of those that are spawned exactly where some function spawns it
abbrev pub SpawnedAreTold : Type 0
SpawnedAreTold = (r : Resolution) (k : ℕ) → (is_spawned r k ≡ true) ↔ ((n : ℕ) × Spawns r n k)

-- a test shows which functions are reached
abbrev pub ReachedAreTold : Type 0
ReachedAreTold = (r : Resolution) → (reached : ℕ → Bool) × ((k : ℕ) → (reached k ≡ true) ↔ IsReached r k)
