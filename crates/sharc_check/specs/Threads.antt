-- What threads get, function by function and global by global.
use Rattle.std.specs.{Prelude.{ℕ, Bool, ◌&&◌, List, [], Option, Some, None, is_some, if◌then◌else◌}, List.flat_map}
use Rattle.sharc_tree.specs.{declared.tree.item.GlobalDefinition.GlobalDefinition, Tree.Function}
use Rattle.sharc_reach.specs.Reaching.{Reaching, first_of}
use Rattle.sharc_mode.specs.declared.error.ErrorCode.TheVariants.{PrivateReachesThread}
use Rattle.sharc_mode.specs.{declared.finding.Finding.Finding, Cells.top_of, Moded.Assignment}
use Rattle.sharc_mode.specs.{Notes.{error_where, is_private_level}, WellModed.parameter_notes}

abbrev pub function_notes : Assignment → Bool → Option Function → List Finding
function_notes m spawned None = []
function_notes m spawned (Some f) = if spawned then flat_map (parameter_notes m f.name.text) f.parameters else []

abbrev pub global_notes : Bool → Option GlobalDefinition → List Finding
global_notes touched None = []
global_notes touched (Some g) = error_where (touched && is_private_level (top_of g.declaration.written.ctype.levels))
    PrivateReachesThread g.declaration.written.span g.declaration.name.text

abbrev pub touched_by : Reaching → ℕ → Bool
touched_by a g = is_some (first_of a g)
