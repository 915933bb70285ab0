-- What is settled of a position before any inference: what is written there, and what is meant where nothing is.
use Rattle.std.specs.Prelude.{ℕ, Bool, true, false, List, [], ◌∷◌, ◌++◌, slice_index_or, Option, Some, None}
use Rattle.std.specs.Prelude.{if◌then◌else◌}
use Rattle.std.specs.Option.{option_or}
use Rattle.sharc_tree.specs.{declared.ctype.Base.Base, declared.ctype.Mode.Mode}
use Rattle.sharc_tree.specs.declared.ctype.Mode.TheVariants.{Private, Racy, Dynamic}
use Rattle.sharc_tree.specs.declared.ctype.Base.TheVariants as base
use Rattle.sharc_names.specs.declared.types.Role.{Role}
use Rattle.sharc_names.specs.declared.types.Role.TheVariants as role
use Rattle.sharc_ctype.specs.{Resolved.Resolution, declared.entity.Entity.Entity, Entities.{entities_in, written_modes}}

-- a level of C type mutex: the last of a type with that base
abbrev pub is_mutex : Base → List (Option Mode) → Bool
is_mutex base.Mutex [] = true
is_mutex _ _ = false

-- a mutex is racy, whatever is written; else what is written, or else what is meant where nothing is
abbrev pub settled : Base → Option Mode → List (Option Mode) → List (Option Mode)
settled b otherwise [] = []
settled b otherwise (level ∷ below) =
    (if is_mutex b below then Some Racy else option_or level otherwise) ∷ settled b otherwise below

-- a field's target without a mode has the field's own top mode if that is written, else dynamic
abbrev pub field_target : List (Option Mode) → Mode
field_target [] = Dynamic
field_target (None ∷ below) = Dynamic
field_target (Some m ∷ below) = m

abbrev pub otherwise_of : Role → List (Option Mode) → Option Mode
otherwise_of role.Field levels = Some (field_target levels)
otherwise_of _ levels = None

-- what is settled at the positions of an entity, by depth
abbrev pub settled_modes : Entity → List (Option Mode)
settled_modes e = settled e.written.ctype.base (otherwise_of e.role e.written.ctype.levels) (written_modes e)

abbrev pub settled_in : List Entity → List (Option Mode)
settled_in [] = []
settled_in (e ∷ rest) = settled_modes e ++ settled_in rest

-- by the number of the position; past the last one nothing takes part
abbrev pub settled_at : Resolution → ℕ → Option Mode
settled_at r position = slice_index_or (settled_in (entities_in r.program.items)) position (Some Private)
