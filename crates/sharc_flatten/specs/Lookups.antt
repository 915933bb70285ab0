-- What flattening looks up: the structs by their names, and the places of fields by the tokens that declare them.
use Rattle.std.specs.{Prelude.{◌≡◌, ℕ, List, nat_eq, cond, Option, Some, unwrap_or}, Borrow.Bor, Option.option_map_or}
use Rattle.std.specs.{Str.bytes_eq, declared.hash.FoldHasher.FoldHasher}
use Rattle.std.specs.declared.hash.BuildHasherDefault.{BuildHasherDefault}
use Rattle.indexmap.specs.IndexMap.{get, get_by, IndexMap}
use Rattle.sharc_tree.specs.declared.tree.declaration.Declaration.{Declaration}
use Rattle.sharc_tree.specs.declared.tree.item.StructDefinition.{StructDefinition}
use Rattle.sharc_meaning.specs.Cells.{struct_cells, field_place_in, place_in}
use Rattle.sharc_flat.specs.Flattened.{struct_layout}
use Rattle.sharc_flatten.specs.declared.row.StructRow.{StructRow}

-- ---- structs by their names
abbrev pub Rows : Type 0
Rows = IndexMap (Bor (List ℕ)) StructRow (BuildHasherDefault FoldHasher)

abbrev pub row_at : Rows → List ℕ → Option StructRow
row_at rows name = get_by (λ k. bytes_eq name k.now) rows

abbrev pub cells_at : Rows → List ℕ → ℕ
cells_at rows name = option_map_or (λ r. r.cells) (row_at rows name) 1

-- where no struct has that name, the number after those of all structs
abbrev pub layout_at : ℕ → Rows → List ℕ → ℕ
layout_at otherwise rows name = option_map_or (λ r. r.layout) (row_at rows name) otherwise

abbrev pub HasCells : List StructDefinition → Rows → Type 0
HasCells structs rows = (name : List ℕ) → cells_at rows name ≡ struct_cells structs name

-- the layout of the first of these structs has this number
abbrev pub HasLayouts : ℕ → ℕ → List StructDefinition → Rows → Type 0
HasLayouts first otherwise structs rows = (name : List ℕ)
    → layout_at otherwise rows name ≡ struct_layout first structs name

-- one struct more, in place of any other of its name
abbrev pub HasRow : List ℕ → StructRow → Rows → Rows → Type 0
HasRow key row old new = (name : List ℕ) → row_at new name ≡ cond (bytes_eq key name) (Some row) (row_at old name)

-- ---- fields by their tokens
abbrev pub Places : Type 0
Places = IndexMap ℕ ℕ (BuildHasherDefault FoldHasher)

abbrev pub place_found : Places → ℕ → ℕ
place_found places token = unwrap_or (get nat_eq places token) 0

abbrev pub HasFields : List StructDefinition → Places → Type 0
HasFields structs places = (token : ℕ) → place_found places token ≡ field_place_in structs token

-- the places of a struct's fields, in place of any others of their tokens
abbrev pub HasPlaces : List Declaration → Places → Places → Type 0
HasPlaces fields old new = (token : ℕ)
    → place_found new token ≡ unwrap_or (place_in fields token) (place_found old token)
