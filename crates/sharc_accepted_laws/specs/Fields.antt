-- The places of fields in the elements of their structs.
use Rattle.std.specs.Prelude.{◌≡◌, ℕ, slice_get, Some, Contains}
use Rattle.sharc_tree.specs.declared.tree.declaration.Declaration.{Declaration}
use Rattle.sharc_tree.specs.{declared.tree.item.StructDefinition.StructDefinition, Placed.IsPlaced}
use Rattle.sharc_ctype.specs.Resolved.{Resolution, structs_in}
use Rattle.sharc_meaning.specs.Cells.{field_place}

-- the place of a field is that at which it stands in its struct
abbrev pub FieldsPlaced : Type 0
FieldsPlaced = (r : Resolution) → IsPlaced r.program → (s : StructDefinition) (k : ℕ) (d : Declaration)
    → Contains (structs_in r.program.items) s → slice_get s.fields k ≡ Some d → field_place r d.name.site.token ≡ k
