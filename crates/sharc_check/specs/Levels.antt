-- A type whose levels are gone over from the top down.
use Rattle.std.specs.Prelude.{Bool, false, ◌&&◌, ◌||◌, not, List, Option, Some, None}
use Rattle.sharc_tree.specs.declared.ctype.Mode.{Mode}
use Rattle.sharc_names.specs.declared.types.Role.{Role}
use Rattle.sharc_names.specs.declared.types.Role.TheVariants as role
use Rattle.sharc_mode.specs.{Cells.top_of, WellFormed.{is_private_mode, begins_private, holds_private}}

abbrev pub is_shared : Option Mode → Bool
is_shared None = false
is_shared (Some m) = not (is_private_mode m)

-- the top is known and not private
abbrev pub is_shared_top : Role → List (Option Mode) → Bool
is_shared_top role.Global levels = false
is_shared_top _ levels = is_shared (top_of levels)

-- M3 of the levels below one that is known and not private, or is not
abbrev pub holds_below : Bool → List (Option Mode) → Bool
holds_below above levels = (above && begins_private levels) || holds_private levels
