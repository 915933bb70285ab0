-- In a typed program no struct has more than 256 fields.
use Rattle.sharc_ctype.proofs.Imports.{◌≡◌, ℕ, zero, suc, ◌+◌, ◌<◌, ◌≤◌, Bool, true, false, nat_lt, List, [], ◌∷◌, ◌++◌, length, refl, ap, sym, subst, ◌∙◌, arith, length-append, Option, Some, None, nat_tests, Bor, slice_get, option_copied, IfSome, Declaration, StructDefinition, Item, structure, global, function, Program, Fault, LimitPassed, Scope, Note, fault, refers, yields, faults, fault_unless, type_notes, Role, sizes_notes, global_notes, twice, within, heads_notes, no_heads, field_notes, fields_notes, function_notes, items_notes, file_scope, main_missing, IsTyped, structs_in}

pub faults_append : (a b : List Note) → faults (a ++ b) ≡ faults a ++ faults b
faults_append [] b = refl
faults_append (fault place code ∷ rest) b = ap (λ l. record { place = place; code = code } ∷ l) (faults_append rest b)
faults_append (refers token what ∷ rest) b = faults_append rest b
faults_append (yields token what ∷ rest) b = faults_append rest b

none_first : (a b : List Fault) → a ++ b ≡ [] → a ≡ []
none_first [] b e = refl
none_first (x ∷ a) b e = let no : x ∷ (a ++ b) ≡ [] = e in cc

none_second : (a b : List Fault) → a ++ b ≡ [] → b ≡ []
none_second [] b e = e
none_second (x ∷ a) b e = let no : x ∷ (a ++ b) ≡ [] = e in absurd (cc)

pub fine_first : (a b : List Note) → faults (a ++ b) ≡ [] → faults a ≡ []
fine_first a b e = none_first (faults a) (faults b) (sym (faults_append a b) ∙ e)

pub fine_second : (a b : List Note) → faults (a ++ b) ≡ [] → faults b ≡ []
fine_second a b e = none_second (faults a) (faults b) (sym (faults_append a b) ∙ e)

unless_fine : (well : Bool) (token : ℕ) → faults (fault_unless well token LimitPassed) ≡ [] → well ≡ true
unless_fine true token e = refl
unless_fine false token e = absurd (let no : record { place = token; code = LimitPassed } ∷ [] ≡ [] = e in cc)

within_fine : (before token : ℕ) → faults (within 256 before token) ≡ [] → before < 256
within_fine before token e = let is : nat_lt before 256 ≡ true = unless_fine (nat_lt before 256) token e in grind (arith, nat_tests)

field_fine : (scope : Scope) (all earlier : List Declaration) (d : Declaration) → faults (field_notes scope all earlier d) ≡ [] → length earlier < 256
field_fine scope all earlier d e =
    let token = d.name.site.token in
    let behind = fine_second (type_notes scope all Role.Field d.written) _ e in
    within_fine (length earlier) token (fine_second (twice _ token) (within 256 (length earlier) token) behind)

fields_fine : (scope : Scope) (all earlier list : List Declaration) → length earlier ≤ 256 → faults (fields_notes scope all earlier list) ≡ [] → length earlier + length list ≤ 256
fields_fine scope all earlier [] few e = omega arith
fields_fine scope all earlier (d ∷ rest) few e =
    let here : length earlier < 256 = field_fine scope all earlier d (fine_first (field_notes scope all earlier d) (fields_notes scope all (earlier ++ d ∷ []) rest) e) in
    let more = length-append earlier (d ∷ []) in
    let behind : length (earlier ++ d ∷ []) + length rest ≤ 256 = fields_fine scope all (earlier ++ d ∷ []) rest (omega arith) (fine_second (field_notes scope all earlier d) (fields_notes scope all (earlier ++ d ∷ []) rest) e) in
    omega arith

items_fine : (scope : Scope) (items : List Item) → faults (items_notes scope items) ≡ [] → (n : ℕ) (s : StructDefinition) → slice_get (structs_in items) n ≡ Some s → length s.fields ≤ 256
items_fine scope [] e n s at = absurd (let no : None ≡ Some s = at in cc)
items_fine scope (structure t ∷ rest) e zero s at =
    let same : t ≡ s = cc in
    subst (λ (x : StructDefinition). length x.fields ≤ 256) same
    (let few : 0 + length t.fields ≤ 256 = fields_fine scope t.fields [] t.fields (omega arith) (fine_first (fields_notes scope t.fields [] t.fields) (items_notes scope rest) e) in omega arith)
items_fine scope (structure t ∷ rest) e (suc n) s at = items_fine scope rest (fine_second (fields_notes scope t.fields [] t.fields) (items_notes scope rest) e) n s at
items_fine scope (global g ∷ rest) e n s at = items_fine scope rest (fine_second (global_notes scope g) (items_notes scope rest) e) n s at
items_fine scope (function f ∷ rest) e n s at = items_fine scope rest (fine_second (function_notes scope f) (items_notes scope rest) e) n s at

-- what comes between the heads and the sizes
items_among : (p : Program) → IsTyped p → faults (items_notes (file_scope p.items) p.items) ≡ []
items_among p typed =
    let heads = heads_notes no_heads p.items in
    let scope = file_scope p.items in
    let items = items_notes scope p.items in
    let sizes = sizes_notes scope.structs 0 p.items in
    let last = main_missing (length p.tokens.list) scope.names in
    fine_second heads items (fine_first (heads ++ items) sizes (fine_first ((heads ++ items) ++ sizes) last typed))

pub struct_is_few : (p : Program) → IsTyped p → (n : ℕ) (s : StructDefinition) → slice_get (structs_in p.items) n ≡ Some s → length s.fields ≤ 256
struct_is_few p typed n s at = items_fine (file_scope p.items) p.items (items_among p typed) n s at

pub found_is_few : (p : Program) → IsTyped p → (n : ℕ) (r : Option (Bor StructDefinition)) → option_copied r ≡ slice_get (structs_in p.items) n → IfSome r (λ s. length s.now.fields ≤ 256)
found_is_few p typed n None e = tt
found_is_few p typed n (Some s) e = struct_is_few p typed n s.now (sym e)
