-- Structs and fields that are entered one after the other, the last first.
use Rattle.sharc_flatten.proofs.{Imports.{◌≡◌, ℕ, ◌+◌, ◌-◌, ◌<◌, ◌≤◌, Bool, true, false, cond, List, [], ◌∷◌, length, drop, Option, Some, unwrap_or, nat_eq, refl, ap, sym, ◌∙◌, subst, arith, slice_get, option_map_or, bytes_eq, Declaration, StructDefinition, struct_cells, field_place_in, place_in, struct_layout, StructRow, Rows, row_at, HasCells, HasLayouts, HasRow, Places, place_found, HasFields, HasPlaces, got}, FirstPlaces.{from_first, place_from}}

abbrev pub row_of : ℕ → ℕ → StructRow
row_of layout cells = record { layout = layout; cells = cells }

either : (b : Bool) (row : StructRow) (o : Option StructRow) (f : StructRow → ℕ) (d x : ℕ) → option_map_or f o d ≡ x → option_map_or f (cond b (Some row) o) d ≡ cond b (f row) x
either true row o f d x h = refl
either false row o f d x h = h

-- one struct more is entered
pub cells_more : (all : List StructDefinition) (left k : ℕ) (s : StructDefinition) (old new : Rows) → 0 < left → slice_get all (left - 1) ≡ Some s
    → HasRow s.name.text (record { layout = k; cells = length s.fields }) old new → HasCells (drop left all) old → HasCells (drop (left - 1) all) new
cells_more all left k s old new some is row has name =
    let next : left - 1 + 1 ≡ left = omega arith in
    ap (λ o. option_map_or (λ r. r.cells) o 1) (row name)
    ∙ either (bytes_eq s.name.text name) (record { layout = k; cells = length s.fields }) (row_at old name) (λ r. r.cells) 1 (struct_cells (drop left all) name) (has name)
    ∙ ap (λ n. struct_cells (s ∷ drop n all) name) (sym next)
    ∙ ap (λ l. struct_cells l name) (sym (got all (left - 1) s is))

pub layouts_more : (all : List StructDefinition) (left d : ℕ) (s : StructDefinition) (old new : Rows) → 0 < left → slice_get all (left - 1) ≡ Some s
    → HasRow s.name.text (record { layout = left - 1 + 2; cells = length s.fields }) old new → HasLayouts (left + 2) d (drop left all) old → HasLayouts (left - 1 + 2) d (drop (left - 1) all) new
layouts_more all left d s old new some is row has name =
    let next : left - 1 + 1 ≡ left = omega arith in
    let number : left + 2 ≡ left - 1 + 2 + 1 = omega arith in
    ap (λ o. option_map_or (λ r. r.layout) o d) (row name)
    ∙ either (bytes_eq s.name.text name) (record { layout = left - 1 + 2; cells = length s.fields }) (row_at old name) (λ r. r.layout) d (struct_layout (left + 2) (drop left all) name) (has name)
    ∙ ap (λ k. cond (bytes_eq s.name.text name) (left - 1 + 2) (struct_layout k (drop left all) name)) number
    ∙ ap (λ n. struct_layout (left - 1 + 2) (s ∷ drop n all) name) (sym next)
    ∙ ap (λ l. struct_layout (left - 1 + 2) l name) (sym (got all (left - 1) s is))

-- the fields of one struct more are entered
pub fields_more : (all : List StructDefinition) (left : ℕ) (s : StructDefinition) (old new : Places) → 0 < left → slice_get all (left - 1) ≡ Some s
    → HasPlaces s.fields old new → HasFields (drop left all) old → HasFields (drop (left - 1) all) new
fields_more all left s old new some is places has token =
    let next : left - 1 + 1 ≡ left = omega arith in
    places token
    ∙ ap (unwrap_or (place_in s.fields token)) (has token)
    ∙ ap (λ n. field_place_in (s ∷ drop n all) token) (sym next)
    ∙ ap (λ l. field_place_in l token) (sym (got all (left - 1) s is))

-- the places of the fields from this one on are entered
abbrev pub HasFrom : List Declaration → ℕ → Places → Places → Type 0
HasFrom fields left old new = (token : ℕ) → place_found new token ≡ unwrap_or (place_from left (drop left fields) token) (place_found old token)

chosen : (b : Bool) (n x : ℕ) (o : Option ℕ) → cond b n (unwrap_or o x) ≡ unwrap_or (cond b (Some n) o) x
chosen true n x o = refl
chosen false n x o = refl

pub has_all : (fields : List Declaration) (old new : Places) (left : ℕ) → left ≡ 0 → HasFrom fields left old new → HasPlaces fields old new
has_all fields old new left zero has token =
    let all : HasFrom fields 0 old new = subst (λ n. HasFrom fields n old new) zero has in
    all token ∙ ap (λ o. unwrap_or o (place_found old token)) (from_first (λ d. nat_eq d.name.site.token token) fields)
