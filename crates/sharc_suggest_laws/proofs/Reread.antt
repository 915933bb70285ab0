-- A program with a cast written in it, as C typing sees it.
use Rattle.sharc_suggest_laws.proofs.{Imports.{◌≡◌, ℕ, ◌+◌, ◌-◌, ◌==◌, Bool, true, false, cond, List, [], ◌∷◌, ◌++◌, length, map, is_some, refl, ap, ap₂, sym, subst, ◌∙◌, codes, AllByRecursion, Base, Mutex, Void, Struct, Declaration, Constant, GlobalDefinition, GlobalForm, Array, Initial, Function, Item, structure, global, function, DefinedTwice, LimitPassed, NoMain, Scope, declared_kind, stars_of, Entry, StructTable, field_of, struct_of, look_up, Note, fault_unless, fault_where, type_notes, Role, Recast, statements_with_cast, function_with_cast, item_with_cast, program_with_cast, known_in, length_notes, base_initial_notes, global_notes, item_cells, item_size_notes, sizes_notes, Heading, within, item_head_notes as head_notes, heads_notes, behind, behind_all, no_heads, fields_notes, parameters_notes, function_notes, item_notes, items_notes, has_main, main_missing, file_scope, program_notes, notes_about, Resolution, with_names, declared_notes, locals_in_all, entry_of, item_givings, items_givings, front, back, joint}, Noted.{Clean, left, right, Noted, done, both, same, AreFaults, IsTame, quiet, unless_faults, where_faults, faults_tame, append_tame, type_tame}, Restated.{in_statements, declared_tame}, Retyped.{Setting, IsMild, AreMild}, Scoped.{Scoped, scoped_file, scoped_with}}
use Rattle.sharc_ctype.specs.{Globals.initial_notes, Items.{field_notes, with_parameters, beyond}, Statements.declared}
use Rattle.sharc_suggest.specs.Givings as scopes

-- ---- what is said of what is declared, in which what yields is a field

parameters_tame : (block before : ℕ) (scope : Scope) (ds : List Declaration) → AllByRecursion IsTame (parameters_notes block before scope ds)
parameters_tame block before scope [] = tt
parameters_tame block before scope (d ∷ rest) =
    append_tame (type_notes scope [] Role.Parameter d.written ++ declared_notes block d scope.names ++ within 16 before d.name.site.token) _
    (append_tame (type_notes scope [] Role.Parameter d.written ++ declared_notes block d scope.names) _
    (append_tame (type_notes scope [] Role.Parameter d.written) _ (type_tame scope [] Role.Parameter d.written) (declared_tame block d scope.names))
    (faults_tame _ (unless_faults _ d.name.site.token LimitPassed)))
    (parameters_tame block (before + 1) (with_names scope (declared block d scope.names)) rest)

limits_tame : (known well : Bool) (token : ℕ) → AllByRecursion IsTame (fault_where known token DefinedTwice ++ fault_unless well token LimitPassed)
limits_tame known well token = append_tame (fault_where known token DefinedTwice) _ (faults_tame _ (where_faults known token DefinedTwice)) (faults_tame _ (unless_faults well token LimitPassed))

field_tame : (scope : Scope) (all earlier : List Declaration) (d : Declaration) → AllByRecursion IsTame (field_notes scope all earlier d)
field_tame scope all earlier d = append_tame (type_notes scope all Role.Field d.written) _ (type_tame scope all Role.Field d.written) (tt, limits_tame (is_some (field_of earlier d.name.text)) _ d.name.site.token)

fields_tame : (scope : Scope) (all earlier ds : List Declaration) → AllByRecursion IsTame (fields_notes scope all earlier ds)
fields_tame scope all earlier [] = tt
fields_tame scope all earlier (d ∷ rest) = append_tame (field_notes scope all earlier d) _ (field_tame scope all earlier d) (fields_tame scope all (earlier ++ d ∷ []) rest)

pub length_faults : (f : GlobalForm) → AreFaults (length_notes f)
length_faults (Array at count) = where_faults _ at.token _
length_faults _ = tt

base_faults : (b : Base) (name at : ℕ) (minus : Bool) (c : Constant) → AreFaults (base_initial_notes b name at minus c)
base_faults Mutex name at minus c = (tt, tt)
base_faults Void name at minus c = tt
base_faults (Struct s) name at minus c = (tt, tt)
base_faults _ name at minus c = unless_faults _ at _

either_faults : (b : Bool) (x y : List Note) → AreFaults x → AreFaults y → AreFaults (cond b x y)
either_faults true x y f g = f
either_faults false x y f g = g

pub initial_faults : (g : GlobalDefinition) (f : GlobalForm) → AreFaults (initial_notes g f)
initial_faults g (Initial span minus c) =
    either_faults (stars_of g.declaration.written == 0) _ _ (base_faults g.declaration.written.ctype.base g.declaration.name.site.token span.first.token minus c) (unless_faults _ span.first.token _)
initial_faults g _ = tt

global_tame : (scope : Scope) (g : GlobalDefinition) → AllByRecursion IsTame (global_notes scope g)
global_tame scope g =
    append_tame (type_notes scope [] Role.Global g.declaration.written ++ length_notes g.form) _
    (append_tame (type_notes scope [] Role.Global g.declaration.written) _ (type_tame scope [] Role.Global g.declaration.written) (faults_tame _ (length_faults g.form)))
    (faults_tame _ (initial_faults g g.form))

head_tame : (h : Heading) (i : Item) → AllByRecursion IsTame (head_notes h i)
head_tame h (structure s) = (tt, limits_tame (is_some (struct_of h.scope.structs s.name.text)) _ s.name.site.token)
head_tame h (global g) = (tt, limits_tame (is_some (look_up h.scope.names g.declaration.name.text)) _ g.declaration.name.site.token)
head_tame h (function f) = (tt, limits_tame (is_some (look_up h.scope.names f.name.text)) _ f.name.site.token)

heads_tame : (h : Heading) (items : List Item) → AllByRecursion IsTame (heads_notes h items)
heads_tame h [] = tt
heads_tame h (i ∷ rest) = append_tame (head_notes h i) _ (head_tame h i) (heads_tame (behind h i) rest)

size_faults : (structs : StructTable) (before : ℕ) (i : Item) → AreFaults (item_size_notes structs before i)
size_faults structs before (global g) = unless_faults _ g.declaration.name.site.token LimitPassed
size_faults structs before _ = tt

pub sizes_faults : (structs : StructTable) (before : ℕ) (items : List Item) → AreFaults (sizes_notes structs before items)
sizes_faults structs before [] = tt
sizes_faults structs before (i ∷ rest) = joint _ (item_size_notes structs before i) _ (size_faults structs before i) (sizes_faults structs (before + item_cells structs i) rest)

pub beyond_faults : (room : ℕ) (ds : List Declaration) → AreFaults (beyond room ds)
beyond_faults room [] = tt
beyond_faults room (d ∷ rest) = joint _ (fault_where (room == 0) d.name.site.token LimitPassed) _ (where_faults (room == 0) d.name.site.token LimitPassed) (beyond_faults (room - 1) rest)

-- ---- what is known of the file is the same

behind_same : (c : Recast) (h : Heading) (i : Item) → behind h (item_with_cast c i) ≡ behind h i
behind_same c h (global g) = refl
behind_same c h _ = refl

behind_all_same : (c : Recast) (h : Heading) (items : List Item) → behind_all h (map (item_with_cast c) items) ≡ behind_all h items
behind_all_same c h [] = refl
behind_all_same c h (i ∷ rest) = ap (λ (k : Heading). behind_all k (map (item_with_cast c) rest)) (behind_same c h i) ∙ behind_all_same c (behind h i) rest

pub file_same : (c : Recast) (items : List Item) → file_scope (map (item_with_cast c) items) ≡ file_scope items
file_same c items = ap (λ (h : Heading). known_in h.scope) (behind_all_same c no_heads items)

head_same : (c : Recast) (h : Heading) (i : Item) → head_notes h (item_with_cast c i) ≡ head_notes h i
head_same c h (global g) = refl
head_same c h _ = refl

heads_same : (c : Recast) (h : Heading) (items : List Item) → heads_notes h (map (item_with_cast c) items) ≡ heads_notes h items
heads_same c h [] = refl
heads_same c h (i ∷ rest) =
    ap₂ (λ (x y : List Note). x ++ y) (head_same c h i) (ap (λ (k : Heading). heads_notes k (map (item_with_cast c) rest)) (behind_same c h i) ∙ heads_same c (behind h i) rest)

-- ---- functions and items

pub parameters_scoped : (file : List Entry) (s : Scope) (scope : List Entry) → Scoped file s.names scope → (block before : ℕ) (ds : List Declaration) → Clean (parameters_notes block before s ds)
    → Scoped file (with_parameters block s.names ds) (scopes.with_parameters scope ds)
parameters_scoped file s scope scoped block before [] clean = scoped
parameters_scoped file s scope scoped block before (d ∷ rest) clean =
    parameters_scoped file (with_names s (declared block d s.names)) (entry_of d ∷ scope) (scoped_with file s.names scope d block scoped (right _ _ (left _ _ (left _ _ clean)))) block (before + 1) rest (right _ _ clean)

in_function : (w : Setting) (f : Function) → AreMild w (item_givings (function f)) → Clean (function_notes w.file (function_with_cast w.recast f))
    → Noted w.resolution (function_notes w.file f) (function_notes w.file (function_with_cast w.recast f))
in_function w f mild clean =
    let names : List Entry = with_parameters (length w.file.names) w.file.names f.parameters in
    let heads : List Note = type_notes w.file [] Role.Result f.result ++ parameters_notes (length w.file.names) 0 w.file f.parameters in
    let scoped : Scoped w.file.names names (scopes.with_parameters [] f.parameters) =
    parameters_scoped w.file.names w.file [] (scoped_file w.file.names) (length w.file.names) 0 f.parameters (right _ _ (left _ _ (left _ _ clean))) in
    both w.resolution _ _ _ _
    (both w.resolution heads heads _ _
    (same w.resolution heads (append_tame (type_notes w.file [] Role.Result f.result) _ (type_tame w.file [] Role.Result f.result) (parameters_tame (length w.file.names) 0 w.file f.parameters)))
    (in_statements w names (scopes.with_parameters [] f.parameters) scoped (record { result = declared_kind f.result; in_loop = false; block = length w.file.names }) f.name.site.token f.statements mild (right _ _ (left _ _ clean))))
    (quiet w.resolution _ _ (beyond_faults 200 (locals_in_all f.statements)) (beyond_faults 200 (locals_in_all (statements_with_cast w.recast f.statements))))

in_item : (w : Setting) (i : Item) → AreMild w (item_givings i) → Clean (item_notes w.file (item_with_cast w.recast i)) → Noted w.resolution (item_notes w.file i) (item_notes w.file (item_with_cast w.recast i))
in_item w (structure s) mild clean = same w.resolution _ (fields_tame w.file s.fields [] s.fields)
in_item w (global g) mild clean = same w.resolution _ (global_tame w.file g)
in_item w (function f) mild clean = in_function w f mild clean

in_items : (w : Setting) (items : List Item) → AreMild w (items_givings items) → Clean (items_notes w.file (map (item_with_cast w.recast) items)) → Noted w.resolution (items_notes w.file items) (items_notes w.file (map (item_with_cast w.recast) items))
in_items w [] mild clean = done
in_items w (i ∷ rest) mild clean =
    both w.resolution _ _ _ _ (in_item w i (front (IsMild w) (item_givings i) (items_givings rest) mild) (left _ _ clean))
    (in_items w rest (back (IsMild w) (item_givings i) (items_givings rest) mild) (right _ _ clean))

-- ---- all that is to be said

abbrev pub setting_of : Resolution → Recast → Setting
setting_of r c = record { resolution = r; recast = c; file = file_scope r.program.items }

abbrev pub said_with : ℕ → Scope → List Item → List Note → List Note
said_with tokens file items heads = heads ++ items_notes file items ++ sizes_notes file.structs 0 items ++ main_missing tokens file.names

pub said_same : (c : Recast) (tokens : ℕ) (items : List Item) → program_notes tokens (map (item_with_cast c) items) ≡ said_with tokens (file_scope items) (map (item_with_cast c) items) (heads_notes no_heads items)
said_same c tokens items = ap₂ (λ (file : Scope) (heads : List Note). said_with tokens file (map (item_with_cast c) items) heads) (file_same c items) (heads_same c no_heads items)

pub in_program : (r : Resolution) (c : Recast) → AreMild (setting_of r c) (items_givings r.program.items) → Clean (notes_about (program_with_cast c r.program)) → Noted r (notes_about r.program) (notes_about (program_with_cast c r.program))
in_program r c mild clean =
    let items : List Item = r.program.items in
    let now : List Item = map (item_with_cast c) items in
    let file : Scope = file_scope items in
    let tokens : ℕ = length r.program.tokens.list in
    let heads : List Note = heads_notes no_heads items in
    let is : notes_about (program_with_cast c r.program) ≡ said_with tokens file now heads = said_same c tokens items in
    let said : Clean (said_with tokens file now heads) = subst Clean is clean in
    subst (λ (l : List Note). Noted r (notes_about r.program) l) (sym is)
    (both r (heads ++ items_notes file items ++ sizes_notes file.structs 0 items) (heads ++ items_notes file now ++ sizes_notes file.structs 0 now) _ _
    (both r (heads ++ items_notes file items) (heads ++ items_notes file now) _ _
    (both r heads heads _ _ (same r heads (heads_tame no_heads items)) (in_items (setting_of r c) items mild (right _ _ (left _ _ (left _ _ said)))))
    (quiet r _ _ (sizes_faults file.structs 0 items) (sizes_faults file.structs 0 now)))
    (quiet r _ _ (unless_faults (has_main (look_up file.names (codes "main"))) tokens NoMain) (unless_faults (has_main (look_up file.names (codes "main"))) tokens NoMain)))
