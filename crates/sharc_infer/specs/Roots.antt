-- Why each position is a root, name by name: the list that the roots are written into.
use Rattle.std.specs.Prelude.{ℕ, zero, suc, nat_lt, Bool, true, false, List, [], ◌∷◌, length, Option, Some, None}
use Rattle.std.specs.Prelude.{replicate, slice_set, if◌then◌else◌}
use Rattle.sharc_tree.specs.declared.tree.declaration.Declaration.{Declaration}
use Rattle.sharc_tree.specs.{declared.tree.item.GlobalDefinition.GlobalDefinition, Tree.Function}
use Rattle.sharc_ctype.specs.{declared.entity.Numbered.Numbered, Entities.{entity_at, positions_of}}
use Rattle.sharc_ctype.specs.Resolved.{Resolution, global_at, function_at, globals_in, functions_in}
use Rattle.sharc_mode.specs.{declared.position.Reason.Reason, declared.position.Reason.TheVariants.{Touched, Spawned}}
use Rattle.sharc_mode.specs.Moded.{position_count}
use Rattle.sharc_reach.specs.Reaching.{Reaching, first_of, is_chosen}

abbrev pub Roots : Type 0
Roots = List (Option Reason)

-- its first position, where it has one
abbrev pub marked : Option Numbered → Reason → Roots → Roots
marked None reason roots = roots
marked (Some n) reason roots = if nat_lt 0 (positions_of n.entity) then slice_set roots n.first (Some reason) else roots

-- that of what this token declares
abbrev pub rooted : Resolution → ℕ → Reason → Roots → Roots
rooted r token = marked (entity_at r token token)

-- the top of a global, where this function touches it
abbrev pub touch : Resolution → Option GlobalDefinition → Option ℕ → Roots → Roots
touch r None function roots = roots
touch r (Some g) None roots = roots
touch r (Some g) (Some f) roots = rooted r g.declaration.name.site.token (Touched f) roots

-- those of the globals below this number
abbrev pub touched_below : Resolution → Reaching → ℕ → Roots → Roots
touched_below r a zero roots = roots
touched_below r a (suc n) roots = touch r (global_at r n) (first_of a n) (touched_below r a n roots)

-- the targets of parameters of the function with this number
abbrev pub mark_all : Resolution → ℕ → List Declaration → Roots → Roots
mark_all r function [] roots = roots
mark_all r function (d ∷ rest) roots = mark_all r function rest (rooted r d.name.site.token (Spawned function) roots)

abbrev pub pass : Resolution → ℕ → Option Function → Bool → Roots → Roots
pass r n f false roots = roots
pass r n None true roots = roots
pass r n (Some f) true roots = mark_all r n f.parameters roots

-- those of the functions below this number
abbrev pub passed_below : Resolution → Reaching → ℕ → Roots → Roots
passed_below r a zero roots = roots
passed_below r a (suc n) roots = pass r n (function_at r n) (is_chosen a.spawned n) (passed_below r a n roots)

abbrev pub roots_of : Resolution → Reaching → Roots
roots_of r a = passed_below r a (length (functions_in r.program.items))
    (touched_below r a (length (globals_in r.program.items)) (replicate (position_count r) None))
