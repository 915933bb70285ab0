-- What stands beside a field that is locked by one of the same element.
use Rattle.std.specs.Prelude.{◌≡◌, ℕ, ◌<◌, List, length, slice_index_or, Contains}
use Rattle.sharc_tree.specs.{declared.tree.item.GlobalDefinition.GlobalDefinition, Low.IsLow, Placed.IsPlaced}
use Rattle.sharc_ctype.specs.Resolved.{IsResolved, globals_in}
use Rattle.sharc_mode.specs.{Flows.IsLeastAssignment, Moded.Assignment, WellModed.WellModed}
use Rattle.sharc_invariant.specs.Types.{OfElement, FieldMode, Under, MutexWord, Field, no_field, row_of, field_at}
use Rattle.sharc_invariant.specs.Types.{FieldMode as own}
use Rattle.sharc_invariant.specs.Typed.{PointsToMutex}
use Rattle.sharc_accepted_laws.specs.{Shapes.{Shape, shapes, number}, Targets.{global_element, targets_of}}

-- in an element with these fields: the mutex that a mode names there, or the readonly pointer to one
abbrev pub BesideFits : Assignment → List Field → FieldMode → Type 0
BesideFits m fields (Under (OfElement f j)) =
    (j < length fields) × ((slice_index_or fields j no_field).holds ≡ MutexWord)
BesideFits m fields (own.Behind f p) =
    (p < length fields) × PointsToMutex (targets_of m) (slice_index_or fields p no_field)
BesideFits m fields _ = Unit {0}

-- in each row, and in each element of a global
pub record AreLockedBeside (m : Assignment) : Type 0 where
  pub rows : (s : Shape) → Contains (shapes m) s
      → (k : ℕ) → BesideFits m (row_of (targets_of m) (number m s)).fields (field_at (targets_of m) (number m s) k).mode
  pub globals : (g : GlobalDefinition) → Contains (globals_in m.typed.program.items) g
      → (k : ℕ) → BesideFits m (global_element m g) (slice_index_or (global_element m g) k no_field).mode

abbrev pub LocksStandBeside : Type 0
LocksStandBeside = (m : Assignment) → IsResolved m.typed → IsPlaced m.typed.program → IsLow m.typed.program
    → IsLeastAssignment m → WellModed m → AreLockedBeside m
