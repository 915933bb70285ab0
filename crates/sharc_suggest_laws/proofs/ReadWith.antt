-- A program with a cast written in it has no fault where it had none.
use Rattle.sharc_suggest_laws.proofs.{Imports.{◌≡◌, ◌∙◌, ℕ, ◌+◌, false, List, [], ◌∷◌, ◌++◌, length, map, refl, ap, ap₂, sym, subst, Declaration, Function, Item, structure, global, function, Scope, declared_kind, Entry, StructTable, Note, item_cells, item_size_notes, sizes_notes, heads_notes, no_heads, function_notes, item_notes, items_notes, main_missing, file_scope, notes_about, Resolution, functions_in, Recast, function_with_cast, item_with_cast, program_with_cast, Placing, places_of, places_of_all, item_givings, items_givings, front, back}, Declared.all_locals_same, Noted.{Clean, left, right, joined}, Reread.{parameters_scoped, said_same, setting_of}, Retyped.Setting, Scoped.{Scoped, scoped_file}, StatedWith.{IsPlacedTyped, AreTyped, in_statements}, TypedWith.{IsReady, AreReady}}
use Rattle.sharc_ctype.specs.Items.{with_parameters, beyond}
use Rattle.sharc_suggest.specs.Givings as scopes

in_function : (w : Setting) (f : Function) → AreReady w (item_givings (function f)) → AreTyped w (places_of w.file f) → Clean (function_notes w.file f) → Clean (function_notes w.file (function_with_cast w.recast f))
in_function w f ready typed clean =
    let names : List Entry = with_parameters (length w.file.names) w.file.names f.parameters in
    let scoped : Scoped w.file.names names (scopes.with_parameters [] f.parameters) =
    parameters_scoped w.file.names w.file [] (scoped_file w.file.names) (length w.file.names) 0 f.parameters (right _ _ (left _ _ (left _ _ clean))) in
    joined _ _
    (joined _ _ (left _ _ (left _ _ clean))
    (in_statements w names (scopes.with_parameters [] f.parameters) scoped (record { result = declared_kind f.result; in_loop = false; block = length w.file.names }) f.name.site.token f.statements ready typed (right _ _ (left _ _ clean))))
    (subst (λ (ds : List Declaration). Clean (beyond 200 ds)) (sym (all_locals_same w.recast f.statements)) (right _ _ clean))

in_items : (w : Setting) (items : List Item) → AreReady w (items_givings items) → AreTyped w (places_of_all w.file (functions_in items)) → Clean (items_notes w.file items) → Clean (items_notes w.file (map (item_with_cast w.recast) items))
in_items w [] ready typed clean = clean
in_items w (structure s ∷ rest) ready typed clean = joined _ _ (left _ _ clean) (in_items w rest ready typed (right (item_notes w.file (structure s)) _ clean))
in_items w (global g ∷ rest) ready typed clean = joined _ _ (left _ _ clean) (in_items w rest ready typed (right (item_notes w.file (global g)) _ clean))
in_items w (function f ∷ rest) ready typed clean =
    let later : List Placing = places_of_all w.file (functions_in rest) in
    joined _ _ (in_function w f (front (IsReady w) (item_givings (function f)) (items_givings rest) ready) (front (IsPlacedTyped w) (places_of w.file f) later typed) (left _ _ clean))
    (in_items w rest (back (IsReady w) (item_givings (function f)) (items_givings rest) ready) (back (IsPlacedTyped w) (places_of w.file f) later typed) (right _ _ clean))

-- ---- the globals are as large as they were

cells_same : (c : Recast) (structs : StructTable) (i : Item) → item_cells structs (item_with_cast c i) ≡ item_cells structs i
cells_same c structs (global g) = refl
cells_same c structs _ = refl

size_same : (c : Recast) (structs : StructTable) (before : ℕ) (i : Item) → item_size_notes structs before (item_with_cast c i) ≡ item_size_notes structs before i
size_same c structs before (global g) = refl
size_same c structs before _ = refl

sizes_same : (c : Recast) (structs : StructTable) (before : ℕ) (items : List Item) → sizes_notes structs before (map (item_with_cast c) items) ≡ sizes_notes structs before items
sizes_same c structs before [] = refl
sizes_same c structs before (i ∷ rest) =
    ap₂ (λ (x y : List Note). x ++ y) (size_same c structs before i)
    (ap (λ (n : ℕ). sizes_notes structs (before + n) (map (item_with_cast c) rest)) (cells_same c structs i) ∙ sizes_same c structs (before + item_cells structs i) rest)

-- ---- all that is to be said

pub in_program : (r : Resolution) (c : Recast) → AreReady (setting_of r c) (items_givings r.program.items) → AreTyped (setting_of r c) (places_of_all (file_scope r.program.items) (functions_in r.program.items))
    → Clean (notes_about r.program) → Clean (notes_about (program_with_cast c r.program))
in_program r c ready typed clean =
    let items : List Item = r.program.items in
    let now : List Item = map (item_with_cast c) items in
    let file : Scope = file_scope items in
    let tokens : ℕ = length r.program.tokens.list in
    let heads : List Note = heads_notes no_heads items in
    let missing : List Note = main_missing tokens file.names in
    let of_items : Clean (items_notes file now) = in_items (setting_of r c) items ready typed (right heads (items_notes file items) (left _ (sizes_notes file.structs 0 items) (left _ missing clean))) in
    let sizes : Clean (sizes_notes file.structs 0 now) = subst Clean (sym (sizes_same c file.structs 0 items)) (right (heads ++ items_notes file items) (sizes_notes file.structs 0 items) (left _ missing clean)) in
    subst Clean (sym (said_same c tokens items))
    (joined _ _ (joined _ _ (joined _ _ (left heads (items_notes file items) (left _ (sizes_notes file.structs 0 items) (left _ missing clean))) of_items) sizes) (right _ missing clean))
