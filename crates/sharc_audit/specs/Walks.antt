-- Walks of a thread: what it asks for with a part of its fuel.
use Rattle.std.specs.Prelude.{◌≡◌, ℕ, ℤ, Bool, not, ◌&&◌, nat_lt, List, length}
use Rattle.sharc_mode.specs.Moded.{Assignment}
use Rattle.sharc_meaning.specs.Meaning.{asks}
use Rattle.sharc_audit.specs.{declared.run.ThreadWalk.ThreadWalk, Judging.is_spent}

pub record IsWalk (m : Assignment) (function : ℕ) (argument : ℤ) (answers : List ℤ) (walk : ThreadWalk) : Type 0 where
  pub events : walk.events ≡ (asks m function argument answers walk.fuel).events
  pub spent : walk.spent ≡ is_spent (asks m function argument answers walk.fuel).outcome

-- it has no event at this place, and more fuel may give one
abbrev pub needs_more : ℕ → ℕ → ThreadWalk → Bool
needs_more place fuel walk = not (nat_lt place (length walk.events)) && (walk.spent && nat_lt walk.fuel fuel)
