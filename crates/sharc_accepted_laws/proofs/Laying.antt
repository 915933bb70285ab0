-- Where the cells of structs and of globals stand in the table.
use Rattle.sharc_accepted_laws.proofs.{Imports.{◌≡◌, ℕ, zero, suc, ◌+◌, ◌-◌, ◌*◌, ◌/◌, ◌<◌, ◌≤◌, Bool, true, false, cond, List, [], ◌∷◌, ◌++◌, length, replicate, get_or as slice_index_or, refl, ap, sym, ◌∙◌, subst, arith, Some, Contains, bytes_eq, lt-ltb, ne_eqb, suc-mul, slice_get, GlobalDefinition, StructDefinition, object, is_pointer, declared_kind, no_global, elements_of, Resolution, structs_in, globals_in, struct_named, element_cells, base_cells, field_place, Assignment, first_cell, cells_in, granules_in, globals_from, globals_of, all_granules, FieldMode, Field, no_field, MembersAre, GlobalsAre, GlobalsEnd, member, members, struct_fields, base_fields, declared_content, top_mode, global_element, repeated, global_fields, all_global_fields, same_some, none_some, head_there, place_of_element, tail_there, below_there}, TargetCells.{member_count, base_count}, Good.{at_left, at_right, size}, TargetMembers.members_at, Owners.place_is, AccessCells.below_product}

-- ---- structs
-- the fields of a struct are those of the first one of its name
named_fields : (m : Assignment) (q : FieldMode) (list : List StructDefinition) (name : List ℕ) (s : StructDefinition) → struct_named list name ≡ Some s → struct_fields m q list name ≡ members m q 0 s.fields
named_fields m q [] name s is = absurd (none_some s is)
named_fields m q (x ∷ rest) name s is = by (bytes_eq x.name.text name) is (named_fields m q rest name s)
  where
    by : (b : Bool) → cond b (Some x) (struct_named rest name) ≡ Some s → (struct_named rest name ≡ Some s → struct_fields m q rest name ≡ members m q 0 s.fields)
        → cond b (members m q 0 x.fields) (struct_fields m q rest name) ≡ members m q 0 s.fields
    by true is more = ap (λ (z : StructDefinition). members m q 0 z.fields) (same_some x s is)
    by false is more = more is

pub named_there : (list : List StructDefinition) (name : List ℕ) (s : StructDefinition) → struct_named list name ≡ Some s → Contains list s
named_there [] name s is = absurd (none_some s is)
named_there (x ∷ rest) name s is = by (bytes_eq x.name.text name) is (named_there rest name s)
  where
    by : (b : Bool) → cond b (Some x) (struct_named rest name) ≡ Some s → (struct_named rest name ≡ Some s → Contains rest s) → Contains (x ∷ rest) s
    by true is more = subst (λ z. Contains (x ∷ rest) z) (same_some x s is) (head_there x rest)
    by false is more = tail_there x s rest (more is)

pub members_are : MembersAre
members_are m placed name s is d has q =
    let there = named_there (structs_in m.typed.program.items) name s is in
    let k = place_of_element s.fields d has in
    let place : field_place m.typed d.name.site.token ≡ k.0 = place_is m.typed.program.tokens.list 0 (length m.typed.program.tokens.list) m.typed.program.items placed.follow placed.items s k.0 d there k.1 in
    let fields = named_fields m q (structs_in m.typed.program.items) name s is in
    let many : length (struct_fields m q (structs_in m.typed.program.items) name) ≡ length s.fields = ap length fields ∙ member_count m q 0 s.fields in
    let low = below_there s.fields k.0 d k.1 in
    let from_zero : 0 + k.0 ≡ k.0 = omega arith in
    record {
      inside = omega (arith, many, place, low);
      at = ap (λ i. slice_index_or (struct_fields m q (structs_in m.typed.program.items) name) i no_field) place ∙ ap (λ l. slice_index_or l k.0 no_field) fields ∙ members_at m q 0 s.fields k.0 d k.1
          ∙ ap (λ i. member m q i d) (from_zero ∙ sym place);
    }

-- ---- globals
pub element_count : (m : Assignment) (g : GlobalDefinition) → length (global_element m g) ≡ element_cells m.typed (declared_kind g.declaration.written)
element_count m g = by (length g.declaration.written.ctype.levels - 1)
  where
    by : (n : ℕ) → length (cond (is_pointer (object g.declaration.written.ctype.base n)) (record { mode = top_mode m g; holds = declared_content m 0 g.declaration } ∷ []) (base_fields m (top_mode m g) g.declaration.written.ctype.base))
        ≡ element_cells m.typed (object g.declaration.written.ctype.base n)
    by zero = base_count m (top_mode m g) g.declaration.written.ctype.base
    by (suc n) =
        ap (λ b. length (cond b (record { mode = top_mode m g; holds = declared_content m 0 g.declaration } ∷ []) (base_fields m (top_mode m g) g.declaration.written.ctype.base))) (lt-ltb 0 (suc n) (omega arith))
        ∙ sym (ap (λ b. cond b (base_cells m.typed g.declaration.written.ctype.base) 1) (ne_eqb (suc n) 0 (λ is. omega (arith, is))))

repeated_count : (n : ℕ) (fields : List Field) → length (repeated n fields) ≡ n * length fields
repeated_count zero fields = omega arith
repeated_count (suc n) fields = let e = repeated_count n fields in let many = size fields (repeated n fields) in let product = suc-mul n (length fields) in omega (arith, e, many, product)

repeated_at : (n : ℕ) (fields : List Field) (e k i : ℕ) → e < n → k < length fields → i ≡ e * length fields + k → slice_index_or (repeated n fields) i no_field ≡ slice_index_or fields k no_field
repeated_at zero fields e k i low inside is = absurd (omega (arith, low))
repeated_at (suc n) fields zero k i low inside is = let e : i ≡ k = omega (arith, is) in ap (λ j. slice_index_or (fields ++ repeated n fields) j no_field) e ∙ at_left fields (repeated n fields) k inside
repeated_at (suc n) fields (suc e) k i low inside is =
    let product = suc-mul e (length fields) in
    at_right fields (repeated n fields) i (e * length fields + k) (omega (arith, is, product)) ∙ repeated_at n fields e k (e * length fields + k) (omega (arith, low)) inside refl

padding_count : (n : ℕ) → length (replicate n no_field) ≡ n
padding_count zero = refl
padding_count (suc n) = ap suc (padding_count n)

cells_count : (m : Assignment) (g : GlobalDefinition) → length (repeated (elements_of g.form) (global_element m g)) ≡ cells_in m.typed g
cells_count m g = repeated_count (elements_of g.form) (global_element m g) ∙ ap (λ n. elements_of g.form * n) (element_count m g)

pub global_count : (m : Assignment) (g : GlobalDefinition) → length (global_fields m g) ≡ 2 * granules_in m.typed g
global_count m g =
    let many = size (repeated (elements_of g.form) (global_element m g)) (replicate (2 * granules_in m.typed g - cells_in m.typed g) no_field) in
    let cells = cells_count m g in
    let padding = padding_count (2 * granules_in m.typed g - cells_in m.typed g) in
    half (length (global_fields m g)) (cells_in m.typed g) (length (repeated (elements_of g.form) (global_element m g))) (length (replicate (2 * granules_in m.typed g - cells_in m.typed g) no_field)) many cells padding
  where
    half : (n c a b : ℕ) → n ≡ a + b → a ≡ c → b ≡ 2 * ((c + 1) / 2) - c → n ≡ 2 * ((c + 1) / 2)
    half n c a b e f h = omega arith

pub globals_end : GlobalsEnd
globals_end m = by (globals_in m.typed.program.items)
  where
    by : (list : List GlobalDefinition) → length (all_global_fields m list) ≡ 2 * all_granules m.typed list
    by [] = refl
    by (g ∷ rest) = let e = by rest in let here = global_count m g in let many = size (global_fields m g) (all_global_fields m rest) in omega (arith, e, here, many)

-- a global begins at the granule behind those before it
low_granule : (r : Resolution) (at : ℕ) (list : List GlobalDefinition) (k : ℕ) (g : GlobalDefinition) → slice_get list k ≡ Some g → at ≤ (slice_index_or (globals_from r at list) k no_global).granule
low_granule r at [] k g is = absurd (none_some g is)
low_granule r at (x ∷ rest) zero g is = omega arith
low_granule r at (x ∷ rest) (suc k) g is = let more = low_granule r (at + granules_in r x) rest k g is in omega (arith, more)

in_all : (m : Assignment) (at : ℕ) (list : List GlobalDefinition) (k : ℕ) (g : GlobalDefinition) (j i : ℕ) → slice_get list k ≡ Some g → j < length (global_fields m g)
    → i + 2 * at ≡ 2 * (slice_index_or (globals_from m.typed at list) k no_global).granule + j → slice_index_or (all_global_fields m list) i no_field ≡ slice_index_or (global_fields m g) j no_field
in_all m at [] k g j i is low e = absurd (none_some g is)
in_all m at (x ∷ rest) zero g j i is low e =
    let same : i ≡ j = omega (arith, e) in
    let inside : j < length (global_fields m x) = subst (λ z. j < length (global_fields m z)) (sym (same_some x g is)) low in
    ap (λ n. slice_index_or (global_fields m x ++ all_global_fields m rest) n no_field) same ∙ at_left (global_fields m x) (all_global_fields m rest) j inside ∙ ap (λ z. slice_index_or (global_fields m z) j no_field) (same_some x g is)
in_all m at (x ∷ rest) (suc k) g j i is low e =
    let begins = low_granule m.typed (at + granules_in m.typed x) rest k g is in
    let here = global_count m x in
    let granule = (slice_index_or (globals_from m.typed (at + granules_in m.typed x) rest) k no_global).granule in
    at_right (global_fields m x) (all_global_fields m rest) i (2 * granule + j - 2 * (at + granules_in m.typed x)) (omega (arith, e, begins, here))
    ∙ in_all m (at + granules_in m.typed x) rest k g j (2 * granule + j - 2 * (at + granules_in m.typed x)) is low (omega (arith, begins))

pub globals_are : GlobalsAre
globals_are m k g is e n low inside =
    let cells = cells_count m g in
    let count = repeated_count (elements_of g.form) (global_element m g) in
    let many = size (repeated (elements_of g.form) (global_element m g)) (replicate (2 * granules_in m.typed g - cells_in m.typed g) no_field) in
    let within = below_product e (elements_of g.form) (length (global_element m g)) n low inside in
    let j : ℕ = e * length (global_element m g) + n in
    let begins = low_granule m.typed 1 (globals_in m.typed.program.items) k g is in
    let first : ℕ = first_cell (globals_of m.typed) k in
    let here : j < length (repeated (elements_of g.form) (global_element m g)) = omega (arith, count, within) in
    record {
      at = in_all m 1 (globals_in m.typed.program.items) k g j (first + j - 2) is (omega (arith, here, many)) (omega (arith, begins))
          ∙ at_left (repeated (elements_of g.form) (global_element m g)) (replicate (2 * granules_in m.typed g - cells_in m.typed g) no_field) j here
          ∙ repeated_at (elements_of g.form) (global_element m g) e n j low inside refl;
      cells = element_count m g;
    }
