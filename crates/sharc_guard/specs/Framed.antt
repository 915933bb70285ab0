-- The guarded code of flat code whose lines stay within their functions and frames is well formed.
use Rattle.std.specs.Prelude.{ℕ, Bool}
use Rattle.sharc_flat.specs.{Machine.Flat, Framed.IsFramed}
use Rattle.sharc_guard.specs.{Form.IsGuarded, Guard.guarded}

abbrev pub FramedIsGuarded : Type 0
FramedIsGuarded = (flat : Flat) (dropped : ℕ → Bool) → IsFramed flat → IsGuarded (guarded dropped flat)
