-- A global takes no more granules than it has cells.
use Rattle.sharc_accepted_laws.proofs.Imports.{◌≡◌, ℕ, ◌+◌, ◌*◌, ◌/◌, ◌==◌, ◌≤◌, Bool, true, false, cond, List, [], ◌∷◌, length, Some, refl, ap, arith, bytes_eq, Base, GlobalDefinition, StructDefinition, stars_of, elements_of, Resolution, structs_in, globals_in, struct_named, struct_size, base_size, global_size, all_sizes, CellsAreFew, struct_cells, base_cells, cells_in, all_granules, GranulesAreFew}

half : (n : ℕ) → (n + 1) / 2 ≤ n
half n = omega arith

struct_is : (structs : List StructDefinition) (name : List ℕ) → struct_cells structs name ≡ struct_size (struct_named structs name)
struct_is [] name = refl
struct_is (s ∷ rest) name = by (bytes_eq s.name.text name) (struct_is rest name)
  where
    by : (b : Bool) → struct_cells rest name ≡ struct_size (struct_named rest name) → cond b (length s.fields) (struct_cells rest name) ≡ struct_size (cond b (Some s) (struct_named rest name))
    by true e = refl
    by false e = e

base_is : (r : Resolution) (b : Base) → base_cells r b ≡ base_size (structs_in r.program.items) b
base_is r (Base.Struct name) = struct_is (structs_in r.program.items) name
base_is r _ = refl

cells_are : (r : Resolution) (g : GlobalDefinition) → cells_in r g ≡ global_size (structs_in r.program.items) g
cells_are r g = ap (λ n. elements_of g.form * cond (stars_of g.declaration.written == 0) n 1) (base_is r g.declaration.written.ctype.base)

granules_few : (r : Resolution) (gs : List GlobalDefinition) → all_granules r gs ≤ all_sizes (structs_in r.program.items) gs
granules_few r [] = omega arith
granules_few r (g ∷ rest) =
    let later = granules_few r rest in
    let own = half (cells_in r g) in
    let same = cells_are r g in
    omega (arith, later, own, same)

pub granules_are_few : CellsAreFew → GranulesAreFew
granules_are_few few r resolved placed low =
    let most = few r resolved placed low in
    let counted = granules_few r (globals_in r.program.items) in
    omega (arith, most, counted)
