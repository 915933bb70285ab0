-- The thread that a refused write names is the lowest other one whose bit was set.
use Rattle.sharc_run.proofs.Imports.{◌≡◌, refl, ℕ, Option, Some, None, is_some, if◌then◌else◌, Write, lowest_other, conflicts_in, first_in}

some_or_none : (o : Option ℕ) → (if is_some o then o else None) ≡ o
some_or_none None = refl
some_or_none (Some n) = refl

pub first_is : (old thread : ℕ) → first_in old thread Write None ≡ lowest_other old thread
unfolding first_in conflicts_in
first_is old thread = some_or_none (lowest_other old thread)
