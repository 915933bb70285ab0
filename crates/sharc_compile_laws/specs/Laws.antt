-- What the laws of guarded code ask of the locks of flat code holds of flattened code.
use Rattle.std.specs.Prelude.{ℕ, Bool}
use Rattle.sharc_mode.specs.Moded.{Assignment}
use Rattle.sharc_flat.specs.{declared.flat.Flat.{Flat as FlatCode}, Machine.Flat, Made.flat_of, Flattened.IsFlattened}
use Rattle.sharc_flat.specs.Flattens.{Flattens}
use Rattle.sharc_guard.specs.{Counted.{LocksStand, Guards}, Guard.guarded, Level.IsLevel}

-- it names the mutexes of its locks, of any program
abbrev pub FlattenedLocksStand : Type 0
FlattenedLocksStand = (m : Assignment) (flat : Flat) → IsFlattened m flat → LocksStand flat

abbrev pub MadeLocksStand : Type 0
MadeLocksStand = (m : Assignment) (code : FlatCode) → Flattens m code → LocksStand (flat_of code)

-- So the guarded code of what flattening makes counts what that holds, whichever checks are dropped, if that overwrites
-- no reference.
abbrev pub MadeCounts : Type 0
MadeCounts = (m : Assignment) (code : FlatCode) → Flattens m code → IsLevel (flat_of code) → (dropped : ℕ → Bool)
    → Guards dropped (flat_of code) (guarded dropped (flat_of code))
