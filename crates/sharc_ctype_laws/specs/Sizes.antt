-- How many cells the globals of a program have, by the structs that it defines.
use Rattle.std.specs.Prelude.{ℕ, ◌+◌, ◌*◌, ◌==◌, ◌≤◌, List, [], ◌∷◌, length, Option, Some, None, if◌then◌else◌}
use Rattle.sharc_tree.specs.{declared.ctype.Base.Base, declared.tree.item.GlobalDefinition.GlobalDefinition}
use Rattle.sharc_tree.specs.{declared.tree.item.StructDefinition.StructDefinition, Low.IsLow, Placed.IsPlaced}
use Rattle.sharc_tree.specs.declared.ctype.Base.TheVariants as base
use Rattle.sharc_names.specs.Kinds.{stars_of}
use Rattle.sharc_ctype.specs.{Globals.elements_of, Resolved.{Resolution, IsResolved, structs_in, globals_in}}
use Rattle.sharc_ctype_laws.specs.Constraints.{struct_named}

-- one for each field; the known `struct cond`, which is not defined, has one
abbrev pub struct_size : Option StructDefinition → ℕ
struct_size None = 1
struct_size (Some s) = length s.fields

abbrev pub base_size : List StructDefinition → Base → ℕ
base_size structs base.Int = 1
base_size structs base.Char = 1
base_size structs base.Long = 1
base_size structs base.Mutex = 1
base_size structs base.Void = 1
base_size structs (base.Struct name) = struct_size (struct_named structs name)

-- a pointer has one
abbrev pub global_size : List StructDefinition → GlobalDefinition → ℕ
global_size structs g = elements_of g.form * (if stars_of g.declaration.written == 0
    then base_size structs g.declaration.written.ctype.base else 1)

abbrev pub all_sizes : List StructDefinition → List GlobalDefinition → ℕ
all_sizes structs [] = 0
all_sizes structs (g ∷ rest) = global_size structs g + all_sizes structs rest

-- those of a typed program are few
abbrev pub CellsAreFew : Type 0
CellsAreFew = (r : Resolution) → IsResolved r → IsPlaced r.program → IsLow r.program
    → all_sizes (structs_in r.program.items) (globals_in r.program.items) ≤ 65536
