-- A typed, well-moded program with its least assignment: what the laws of its code ask of it.
use Rattle.sharc_tree.specs.{Low.IsLow, Placed.IsPlaced}
use Rattle.sharc_ctype.specs.Resolved.{IsResolved}
use Rattle.sharc_mode.specs.{Flows.IsLeastAssignment, Moded.Assignment, WellModed.WellModed}

pub record IsTypedProgram (m : Assignment) : Type 0 where
  pub resolved : IsResolved m.typed
  pub placed : IsPlaced m.typed.program
  pub low : IsLow m.typed.program
  pub least : IsLeastAssignment m
  pub well_moded : WellModed m
