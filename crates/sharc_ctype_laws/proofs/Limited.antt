-- A program of which no fault is noted is within the limits, and has its `main`.
use Rattle.sharc_ctype_laws.proofs.{Imports.{◌≡◌, ℕ, suc, ◌+◌, ◌-◌, ◌≤◌, ◌<◌, ◌==◌, Bool, true, ◌&&◌, nat_lt, nat_le, List, [], ◌∷◌, ◌++◌, length, refl, ap, sym, ◌∙◌, arith, Option, Some, None, codes, length-append, ltb-true, leb-true, eqb-true, eq-eqb, is_some, false≢true, true≢false, and_parts, AllByRecursion, Declaration, Function, Item, structure, global, function, LimitPassed, NoMain, Scope, int, same_kind, declared_kind, StructTable, Entry, Meaning, Signature, look_up, struct_of, field_of, type_notes, Named, refers, fault_where, Role, Heads, twice, within, behind, item_head_notes, heads_notes, elements_of, global_cells, item_cells, cells_of_all, item_size_notes, sizes_notes, one_field_notes, fields_notes, parameters_notes, beyond, function_notes, item_notes, items_notes, is_main_meaning, has_main, main_missing, Resolution, structs_in, globals_in, functions_in, with_names, declared, declared_notes, locals_in_all, IsMain}, Held.{Held, well, Clean, left, right, behind_head, not_wrong}, KindLemmas.one_kind, Scenes.{IsMeant, AreMeant, IsScene, found_name}}
use Rattle.sharc_names.specs.Names as meaning

-- how many there are of each kind of item

below : (most before token : ℕ) → Clean (within most before token) → before < most
below most before token h = ltb-true before most (well _ (nat_lt before most) token LimitPassed h)

in_head : (t : ℕ) (what : Named) (known : Bool) (most before token : ℕ) → Clean (refers t what ∷ (twice known token ++ within most before token)) → before < most
in_head t what known most before token h = below most before token (right _ (twice known token) (within most before token) (behind_head _ t what (twice known token ++ within most before token) h))

pub record AreFew (h : Heads) (rest : List Item) : Type 0 where
  pub structs : h.structs + length (structs_in rest) ≤ 256
  pub globals : h.globals + length (globals_in rest) ≤ 4096
  pub functions : h.functions + length (functions_in rest) ≤ 16384

pub few : (h : Heads) (rest : List Item) → h.structs ≤ 256 → h.globals ≤ 4096 → h.functions ≤ 16384 → Clean (heads_notes h rest) → AreFew h rest
few h [] s g f n = record { structs = omega (arith, s); globals = omega (arith, g); functions = omega (arith, f) }
few h (structure x ∷ rest) s g f n =
    let less = in_head x.name.site.token (Named.Struct h.structs) (is_some (struct_of h.scope.structs x.name.text)) 256 h.structs x.name.site.token (left _ (item_head_notes h (structure x)) (heads_notes (behind h (structure x)) rest) n) in
    let later = few (behind h (structure x)) rest (omega (arith, less)) g f (right _ (item_head_notes h (structure x)) (heads_notes (behind h (structure x)) rest) n) in
    let many = later.structs in
    record { structs = omega (arith, many); globals = later.globals; functions = later.functions }
few h (global x ∷ rest) s g f n =
    let less = in_head x.declaration.name.site.token (Named.Global h.globals) (is_some (look_up h.scope.names x.declaration.name.text)) 4096 h.globals x.declaration.name.site.token (left _ (item_head_notes h (global x)) (heads_notes (behind h (global x)) rest) n) in
    let later = few (behind h (global x)) rest s (omega (arith, less)) f (right _ (item_head_notes h (global x)) (heads_notes (behind h (global x)) rest) n) in
    let many = later.globals in
    record { structs = later.structs; globals = omega (arith, many); functions = later.functions }
few h (function x ∷ rest) s g f n =
    let less = in_head x.name.site.token (Named.Function h.functions) (is_some (look_up h.scope.names x.name.text)) 16384 h.functions x.name.site.token (left _ (item_head_notes h (function x)) (heads_notes (behind h (function x)) rest) n) in
    let later = few (behind h (function x)) rest s g (omega (arith, less)) (right _ (item_head_notes h (function x)) (heads_notes (behind h (function x)) rest) n) in
    let many = later.functions in
    record { structs = later.structs; globals = later.globals; functions = omega (arith, many) }

-- fields, parameters and locals

few_fields : (scope : Scope) (all earlier rest : List Declaration) → length earlier ≤ 256 → Clean (fields_notes scope all earlier rest) → length earlier + length rest ≤ 256
few_fields scope all earlier [] s h = omega (arith, s)
few_fields scope all earlier (d ∷ rest) s h =
    let less = in_head d.name.site.token (Named.Field d.name.site.token) (is_some (field_of earlier d.name.text)) 256 (length earlier) d.name.site.token (right _ (type_notes scope all Role.Field d.written) _ (left _ (one_field_notes scope all earlier d) (fields_notes scope all (earlier ++ d ∷ []) rest) h)) in
    let longer = length-append earlier (d ∷ []) in
    let later = few_fields scope all (earlier ++ d ∷ []) rest (omega (arith, less, longer)) (right _ (one_field_notes scope all earlier d) (fields_notes scope all (earlier ++ d ∷ []) rest) h) in
    omega (arith, later, longer)

one_more : (before : ℕ) (rest : List Declaration) → before + 1 + length rest ≤ 16 → before + suc (length rest) ≤ 16
one_more before rest h = omega (arith, h)

few_parameters : (block before : ℕ) (scope : Scope) (list : List Declaration) → before ≤ 16 → Clean (parameters_notes block before scope list) → before + length list ≤ 16
few_parameters block before scope [] s h = omega (arith, s)
few_parameters block before scope (d ∷ rest) s h =
    let parts = parameters_notes block (before + 1) (with_names scope (declared block d scope.names)) rest in
    let less = below 16 before d.name.site.token (right _ (type_notes scope [] Role.Parameter d.written ++ declared_notes block d scope.names) (within 16 before d.name.site.token) (left _ (type_notes scope [] Role.Parameter d.written ++ declared_notes block d scope.names ++ within 16 before d.name.site.token) parts h)) in
    one_more before rest (few_parameters block (before + 1) (with_names scope (declared block d scope.names)) rest (omega (arith, less)) (right _ (type_notes scope [] Role.Parameter d.written ++ declared_notes block d scope.names ++ within 16 before d.name.site.token) parts h))

few_locals : (room : ℕ) (list : List Declaration) → Clean (beyond room list) → length list ≤ room
few_locals room [] h = omega arith
few_locals room (d ∷ rest) h =
    let some = not_wrong _ (room == 0) d.name.site.token LimitPassed (left _ _ _ h) in
    let later = few_locals (room - 1) rest (right _ (fault_where (room == 0) d.name.site.token LimitPassed) (beyond (room - 1) rest) h) in
    let more : room ≡ 0 → ⊥ = λ is. true≢false (sym (eq-eqb room 0 is) ∙ some) in
    omega (arith, later, more)

from_none : (list : List Declaration) → 0 + length list ≤ 16 → length list ≤ 16
from_none list h = omega (arith, h)

pub record AreSmall (items : List Item) : Type 0 where
  pub fields : AllByRecursion (λ s. length s.fields ≤ 256) (structs_in items)
  pub parameters : AllByRecursion (λ f. length f.parameters ≤ 16) (functions_in items)
  pub locals : AllByRecursion (λ f. length (locals_in_all f.statements) ≤ 200) (functions_in items)

pub small : (file : Scope) (items : List Item) → Clean (items_notes file items) → AreSmall items
small file [] h = record { fields = tt; parameters = tt; locals = tt }
small file (structure s ∷ rest) h =
    let later = small file rest (right _ (item_notes file (structure s)) (items_notes file rest) h) in
    let most = few_fields file s.fields [] s.fields (omega arith) (left _ (item_notes file (structure s)) (items_notes file rest) h) in
    record { fields = (omega (arith, most), later.fields); parameters = later.parameters; locals = later.locals }
small file (global g ∷ rest) h = let later = small file rest (right _ (item_notes file (global g)) (items_notes file rest) h) in record { fields = later.fields; parameters = later.parameters; locals = later.locals }
small file (function f ∷ rest) h =
    let later = small file rest (right _ (item_notes file (function f)) (items_notes file rest) h) in
    let n = left _ (function_notes file f) (items_notes file rest) h in
    record {
      fields = later.fields;
      parameters = (from_none f.parameters (few_parameters (length file.names) 0 file f.parameters (omega arith) (right _ _ _ (left _ _ _ (left _ _ _ n)))), later.parameters);
      locals = (few_locals 200 (locals_in_all f.statements) (right _ _ _ n), later.locals);
    }

-- cells

pub record AreCells (structs : StructTable) (before : ℕ) (items : List Item) : Type 0 where
  pub elements : AllByRecursion (λ g. elements_of g.form ≤ 65536) (globals_in items)
  pub cells : before + cells_of_all structs items ≤ 65536

pub few_cells : (structs : StructTable) (before : ℕ) (items : List Item) → before ≤ 65536 → Clean (sizes_notes structs before items) → AreCells structs before items
few_cells structs before [] s h = record { elements = tt; cells = omega (arith, s) }
few_cells structs before (structure x ∷ rest) s h =
    let later = few_cells structs (before + item_cells structs (structure x)) rest (omega (arith, s)) (right _ (item_size_notes structs before (structure x)) (sizes_notes structs (before + item_cells structs (structure x)) rest) h) in
    let many = later.cells in
    record { elements = later.elements; cells = omega (arith, many) }
few_cells structs before (global g ∷ rest) s h =
    let p = and_parts (nat_le (elements_of g.form) 65536) _ (well _ (nat_le (elements_of g.form) 65536 && nat_le (before + global_cells structs g) 65536) g.declaration.name.site.token LimitPassed (left _ (item_size_notes structs before (global g)) (sizes_notes structs (before + item_cells structs (global g)) rest) h)) in
    let low = leb-true (before + global_cells structs g) 65536 p.1 in
    let later = few_cells structs (before + item_cells structs (global g)) rest low (right _ (item_size_notes structs before (global g)) (sizes_notes structs (before + item_cells structs (global g)) rest) h) in
    let many = later.cells in
    record { elements = (leb-true (elements_of g.form) 65536 p.0, later.elements); cells = omega (arith, many) }
few_cells structs before (function f ∷ rest) s h =
    let later = few_cells structs (before + item_cells structs (function f)) rest (omega (arith, s)) (right _ (item_size_notes structs before (function f)) (sizes_notes structs (before + item_cells structs (function f)) rest) h) in
    let many = later.cells in
    record { elements = later.elements; cells = omega (arith, many) }

-- `main`

none_left : {A : Type 0} (list : List A) → length list ≡ 0 → list ≡ []
none_left [] h = refl
none_left (x ∷ rest) h = absurd (omega (arith, h))

main_meant : (r : Resolution) (structs : StructTable) (m : Meaning) → IsMeant r structs (codes "main") m → is_main_meaning m ≡ true → (n : ℕ) × (f : Function) × IsMain r n f
main_meant r structs (meaning.function n s) i h =
    let p = and_parts (same_kind (declared_kind s.result) int) _ h in (
      n,
      i.0,
      record {
        at = i.1;
        name = i.4;
        result = ap (λ (z : Signature). declared_kind z.result) i.2 ∙ one_kind (declared_kind s.result) int p.0;
        parameters = ap (λ (z : Signature). z.parameters) i.2 ∙ none_left s.parameters (eqb-true (length s.parameters) 0 p.1);
      },
    )
main_meant r structs _ i h = absurd (false≢true h)

main_by : (r : Resolution) (structs : StructTable) (names : List Entry) → AreMeant r structs names → (o : Option Entry) → look_up names (codes "main") ≡ o → has_main o ≡ true → (n : ℕ) × (f : Function) × IsMain r n f
main_by r structs names all None is h = absurd (false≢true h)
main_by r structs names all (Some e) is h = main_meant r structs e.meaning (found_name r structs names (codes "main") e all is) h

pub main_is : (r : Resolution) (file : Scope) → IsScene r file → (tokens : ℕ) → Held r (main_missing tokens file.names) → (n : ℕ) × (f : Function) × IsMain r n f
main_is r file scene tokens h = main_by r file.structs file.names scene.names (look_up file.names (codes "main")) refl (well _ (has_main (look_up file.names (codes "main"))) tokens NoMain h)
