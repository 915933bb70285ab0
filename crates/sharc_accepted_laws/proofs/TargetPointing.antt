-- A pointer cell of the globals, or of what a pointer refers to, is one of the source.
use Rattle.sharc_accepted_laws.proofs.{Imports.{◌≡◌, ℕ, zero, suc, ◌+◌, ◌-◌, ◌*◌, ◌<◌, ◌≤◌, ◌⊎◌, inl, inr, Bool, true, false, ◌||◌, cond, List, [], ◌∷◌, ◌++◌, length, replicate, get_or as slice_index_or, Option, Some, None, refl, ap, sym, ◌∙◌, subst, ⊎_elim, arith, bytes_eq, suc-mul, mul_comm, div-add-mod, cases_lt, lt-ltb, mod-mul-add, slice_get, map, ◌%◌, ◌/◌, Base, Declaration, WrittenType, GlobalDefinition, StructDefinition, Kind, object, element_kind, declared_kind, first_place, no_global, elements_of, pointer_cells, structs_in, globals_in, fields_called, is_pointer_in, is_pointer_of_global, Assignment, base_of, written, declared_row, modes_of, cells_in, granules_in, globals_from, globals_of, FieldMode, Field, Pointer, no_field, field_of_cell, global_field, row_of, pointee, IsPointerInTable, PointersAreOfGlobals, GlobalsPoint, PointeesPoint, Form, form_of, stars_in, number, base_content, pointer_content, declared_content, single, members, struct_fields, base_fields, top_mode, global_element, repeated, global_fields, all_global_fields, own_mode, lock_count, type_locks, shape_fields, targets_of, map_length, times_low}, TargetCells.member_count, Good.{at_left, at_right}, Laying.{globals_are, global_count, element_count}, Pointees.{IsPointerKind, pointer_kind, many_modes, pointees_fit}, AccessCells.below_product}
use Rattle.sharc_names.specs.Kinds as Kinds
use Rattle.sharc_code.specs.Ranges.{IsInGlobal}
use Rattle.sharc_meaning.specs.References as References
use Rattle.sharc_invariant.specs.Types.{is_pointer}

-- whether the field at a place is a pointer
abbrev points_at : List Field → ℕ → Bool
points_at list i = is_pointer (slice_index_or list i no_field).holds

abbrev Points : List Field → ℕ → Type 0
Points list i = points_at list i ≡ true

abbrev Part : List Field → List Field → ℕ → Type 0
Part a b i = ((i < length a) × Points a i) ⊎ ((k : ℕ) × (i ≡ length a + k) × Points b k)

parts : (a b : List Field) (i : ℕ) → Points (a ++ b) i → Part a b i
parts a b i h = ⊎_elim
    (λ (low : i < length a). inl (low, subst (λ (f : Field). is_pointer f.holds ≡ true) (at_left a b i low) h))
    (λ (high : length a ≤ i).
    let e : i ≡ length a + (i - length a) = omega (arith, high) in
    inr (i - length a, e, subst (λ (f : Field). is_pointer f.holds ≡ true) (at_right a b i (i - length a) e) h))
    (cases_lt i (length a))

-- ---- elements
base_same : (b : Base) → is_pointer (base_content b) ≡ false
base_same (Base.Struct name) = refl
base_same _ = refl

single_same : (q : FieldMode) (b : Base) (k : ℕ) → points_at (single q b ∷ []) k ≡ false
single_same q Base.Mutex zero = refl
single_same q (Base.Struct name) zero = refl
single_same q _ zero = refl
single_same q b (suc k) = refl

declared_same : (m : Assignment) (n : ℕ) (d : Declaration) → is_pointer (declared_content m n d) ≡ Kinds.is_pointer (declared_kind d.written)
declared_same m n d = by (Kinds.is_pointer (declared_kind d.written))
  where
    by : (b : Bool) → is_pointer (cond b (pointer_content m n d.written.ctype.base (modes_of m (declared_row m.typed written d.name.site.token))) (base_content d.written.ctype.base)) ≡ b
    by true = refl
    by false = base_same d.written.ctype.base

members_same : (m : Assignment) (q : FieldMode) (n : ℕ) (fields : List Declaration) (k : ℕ) → points_at (members m q n fields) k ≡ slice_index_or (pointer_cells fields) k false
members_same m q n [] k = refl
members_same m q n (d ∷ rest) zero = declared_same m n d
members_same m q n (d ∷ rest) (suc k) = members_same m q (n + 1) rest k

-- cell k of element e is cell k
in_element : (c e l k : ℕ) → k < l → c ≡ e * l + k → c % l ≡ k
in_element c e l k low is = ap (λ n. n % l) is ∙ mod-mul-add e l k low

-- cell c of elements, in the table and in the source
struct_same : (m : Assignment) (q : FieldMode) (list : List StructDefinition) (name : List ℕ) (c : ℕ)
    → points_at (struct_fields m q list name) (c % length (struct_fields m q list name)) ≡ slice_index_or (pointer_cells (fields_called list name)) (c % length (fields_called list name)) false
struct_same m q [] name c = single_same q (Base.Struct name) (c % length (single q (Base.Struct name) ∷ []))
struct_same m q (s ∷ rest) name c = by (bytes_eq s.name.text name) (struct_same m q rest name c)
  where
    by : (b : Bool) → points_at (struct_fields m q rest name) (c % length (struct_fields m q rest name)) ≡ slice_index_or (pointer_cells (fields_called rest name)) (c % length (fields_called rest name)) false
        → points_at (cond b (members m q 0 s.fields) (struct_fields m q rest name)) (c % length (cond b (members m q 0 s.fields) (struct_fields m q rest name)))
        ≡ slice_index_or (pointer_cells (cond b s.fields (fields_called rest name))) (c % length (cond b s.fields (fields_called rest name))) false
    by true more = members_same m q 0 s.fields (c % length (members m q 0 s.fields)) ∙ ap (λ n. slice_index_or (pointer_cells s.fields) (c % n) false) (member_count m q 0 s.fields)
    by false more = more

fields_same : (m : Assignment) (q : FieldMode) (b : Base) (c : ℕ)
    → points_at (base_fields m q b) (c % length (base_fields m q b)) ≡ slice_index_or (pointer_cells (References.base_fields m.typed b)) (c % length (References.base_fields m.typed b)) false
fields_same m q (Base.Struct name) c = struct_same m q (structs_in m.typed.program.items) name c
fields_same m q b c = single_same q b (c % length (single q b ∷ []))

alone : (c : ℕ) → c % 1 ≡ 0
alone c = let low = rest c 1 (λ e. omega (arith, e)) in omega (arith, low)
  where
    rest : (a b : ℕ) → (b ≡ 0 → ⊥) → a % b < b
    rest a b ne = grind arith

one_same : (f : Field) (c : ℕ) → points_at (f ∷ []) (c % length (f ∷ [])) ≡ is_pointer f.holds
one_same f c = ap (points_at (f ∷ [])) (alone c)

element_same : (m : Assignment) (g : GlobalDefinition) (c : ℕ) → points_at (global_element m g) (c % length (global_element m g)) ≡ is_pointer_in m.typed g.declaration.written c
element_same m g c = by (Kinds.is_pointer (declared_kind g.declaration.written)) refl
  where
    by : (b : Bool) → Kinds.is_pointer (declared_kind g.declaration.written) ≡ b
        → points_at (cond b (record { mode = top_mode m g; holds = declared_content m 0 g.declaration } ∷ []) (base_fields m (top_mode m g) g.declaration.written.ctype.base))
        (c % length (cond b (record { mode = top_mode m g; holds = declared_content m 0 g.declaration } ∷ []) (base_fields m (top_mode m g) g.declaration.written.ctype.base)))
        ≡ (b || slice_index_or (pointer_cells (References.base_fields m.typed g.declaration.written.ctype.base)) (c % length (References.base_fields m.typed g.declaration.written.ctype.base)) false)
    by true is = one_same (record { mode = top_mode m g; holds = declared_content m 0 g.declaration }) c ∙ declared_same m 0 g.declaration ∙ is
    by false is = fields_same m (top_mode m g) g.declaration.written.ctype.base c

-- ---- globals
record InElement (n : ℕ) (fields : List Field) (i : ℕ) : Type 0 where
  pub element : ℕ
  pub cell : ℕ
  pub low : element < n
  pub inside : cell < length fields
  pub at : i ≡ element * length fields + cell
  pub points : Points fields cell

repeated_points : (n : ℕ) (fields : List Field) (i : ℕ) → Points (repeated n fields) i → InElement n fields i
repeated_points zero fields i h = absurd (let z : false ≡ true = h in cc)
repeated_points (suc n) fields i h = ⊎_elim
    (λ (k : (i < length fields) × Points fields i). record { element = 0; cell = i; low = omega arith; inside = k.0; at = omega arith; points = k.1 })
    (λ (k : (j : ℕ) × (i ≡ length fields + j) × Points (repeated n fields) j).
    let r = repeated_points n fields k.0 k.2 in
    let product = suc-mul r.element (length fields) in
    record { element = suc r.element; cell = r.cell; low = omega (arith, r.low); inside = r.inside; at = omega (arith, product, k.1, r.at); points = r.points })
    (parts fields (repeated n fields) i h)

no_padding : (n i : ℕ) → Points (replicate n no_field) i → ⊥
no_padding zero i h = let z : false ≡ true = h in cc
no_padding (suc n) zero h = let z : false ≡ true = h in cc
no_padding (suc n) (suc i) h = no_padding n i h

record InGlobals (m : Assignment) (from : ℕ) (list : List GlobalDefinition) (i : ℕ) : Type 0 where
  pub number : ℕ
  pub definition : GlobalDefinition
  pub is : slice_get list number ≡ Some definition
  pub known : number < length (globals_from m.typed from list)
  pub cell : ℕ
  pub at : i + 2 * from ≡ 2 * (slice_index_or (globals_from m.typed from list) number no_global).granule + cell
  pub cells : (slice_index_or (globals_from m.typed from list) number no_global).cells ≡ cells_in m.typed definition
  pub element : InElement (elements_of definition.form) (global_element m definition) cell

all_points : (m : Assignment) (from : ℕ) (list : List GlobalDefinition) (i : ℕ) → Points (all_global_fields m list) i → InGlobals m from list i
all_points m from [] i h = absurd (let z : false ≡ true = h in cc)
all_points m from (x ∷ rest) i h = ⊎_elim
    (λ (k : (i < length (global_fields m x)) × Points (global_fields m x) i). ⊎_elim
    (λ (y : (i < length (repeated (elements_of x.form) (global_element m x))) × Points (repeated (elements_of x.form) (global_element m x)) i).
    record { number = 0; definition = x; is = refl; known = omega arith; cell = i; at = omega arith; cells = refl; element = repeated_points (elements_of x.form) (global_element m x) i y.1 })
    (λ (y : (j : ℕ) × (i ≡ length (repeated (elements_of x.form) (global_element m x)) + j) × Points (replicate (2 * granules_in m.typed x - cells_in m.typed x) no_field) j).
    absurd (no_padding (2 * granules_in m.typed x - cells_in m.typed x) y.0 y.2))
    (parts (repeated (elements_of x.form) (global_element m x)) (replicate (2 * granules_in m.typed x - cells_in m.typed x) no_field) i k.1))
    (λ (k : (j : ℕ) × (i ≡ length (global_fields m x) + j) × Points (all_global_fields m rest) j).
    let r = all_points m (from + granules_in m.typed x) rest k.0 k.2 in
    let here = global_count m x in
    record { number = suc r.number; definition = r.definition; is = r.is; known = omega (arith, r.known); cell = r.cell; at = omega (arith, here, k.1, r.at); cells = r.cells; element = r.element })
    (parts (global_fields m x) (all_global_fields m rest) i h)

pub pointers_are_of_globals : PointersAreOfGlobals
pointers_are_of_globals m j h =
    let r = all_points m 1 (globals_in m.typed.program.items) j h in
    let g = r.definition in
    let el = r.element in
    let there = globals_are m r.number g r.is el.element el.cell el.low el.inside in
    let below = below_product el.element (elements_of g.form) (length (global_element m g)) el.cell el.low el.inside in
    let cells : (slice_index_or (globals_of m.typed) r.number no_global).cells ≡ elements_of g.form * length (global_element m g) = r.cells ∙ ap (λ n. elements_of g.form * n) (sym there.cells) in
    record {
      global = r.number;
      definition = g;
      is = r.is;
      cell = r.cell;
      inside = record { known = r.known; low = omega (arith, r.at); high = omega (arith, r.at, el.at, below, cells) };
      at = omega (arith, r.at);
      pointer = ap (λ o. is_pointer_of_global m.typed o r.cell) r.is ∙ sym (element_same m g r.cell)
          ∙ ap (points_at (global_element m g)) (in_element r.cell el.element (length (global_element m g)) el.cell el.inside el.at) ∙ el.points;
    }

-- ---- a pointer is a cell
points_inside : (list : List Field) (k : ℕ) → Points list k → k < length list
points_inside [] k h = absurd (let z : false ≡ true = h in cc)
points_inside (f ∷ list) zero h = omega arith
points_inside (f ∷ list) (suc k) h = let more = points_inside list k h in omega (arith, more)

-- ---- and the other way
cells_at : (m : Assignment) (from : ℕ) (list : List GlobalDefinition) (k : ℕ) (g : GlobalDefinition) → slice_get list k ≡ Some g
    → (k < length (globals_from m.typed from list)) × ((slice_index_or (globals_from m.typed from list) k no_global).cells ≡ cells_in m.typed g)
cells_at m from [] k g is = absurd (cc)
cells_at m from (x ∷ rest) zero g is = let same : x ≡ g = cc in (omega arith, ap (cells_in m.typed) same)
cells_at m from (x ∷ rest) (suc k) g is = let more = cells_at m (from + granules_in m.typed x) rest k g is in let low = more.0 in (omega (arith, low), more.1)

-- the element of a cell
element_low : (c n l : ℕ) → c < n * l → c / l < n
element_low c n l h = ⊎_elim
    (λ (low : c / l < n). low)
    (λ (high : n ≤ c / l). let most = times_low n (c / l) l high in let whole = div-add-mod c l in let turned = mul_comm l (c / l) in absurd (omega (arith, h, most, whole, turned)))
    (cases_lt (c / l) n)

in_place : (first c cells : ℕ) → first + c < first + cells → c < cells
in_place first c cells h = omega (arith, h)

module _ (m : Assignment) (k : ℕ) (g : GlobalDefinition) (is : slice_get (globals_in m.typed.program.items) k ≡ Some g) where
  abbrev first : ℕ
  first = first_place (globals_of m.typed) k

  abbrev size : ℕ
  size = length (global_element m g)

  known : k < length (globals_of m.typed)
  known = (cells_at m 1 (globals_in m.typed.program.items) k g is).0

  cells : (slice_index_or (globals_of m.typed) k no_global).cells ≡ elements_of g.form * length (global_element m g)
  cells = (cells_at m 1 (globals_in m.typed.program.items) k g is).1 ∙ ap (λ n. elements_of g.form * n) (sym (element_count m g))

  -- field n of element e
  field_points : (e n : ℕ) → e < elements_of g.form → Points (global_element m g) n → is_pointer (global_field (targets_of m) (first_place (globals_of m.typed) k + (e * length (global_element m g) + n) - 2)).holds ≡ true
  field_points e n low h = ap (λ (f : Field). is_pointer f.holds) (globals_are m k g is e n low (points_inside (global_element m g) n h)).at ∙ h

  field_there : (e n : ℕ) → e < elements_of g.form → Points (global_element m g) n → IsInGlobal (globals_of m.typed) k (first_place (globals_of m.typed) k + (e * length (global_element m g) + n))
  field_there e n low h =
      let below = below_product e (elements_of g.form) size n low (points_inside (global_element m g) n h) in
      let all = cells in
      record { known = known; low = omega arith; high = omega (arith, below, all) }

  points_back : (cell : ℕ) → is_pointer_in m.typed g.declaration.written cell ≡ true → IsPointerInTable m k cell
  points_back cell h =
      let there = element_same m g cell ∙ h in
      let whole = div-add-mod cell size in
      let turned = mul_comm size (cell / size) in
      let at : cell / size * size + cell % size ≡ cell = omega (arith, whole, turned) in
      let begin : 0 * size + cell % size ≡ cell % size = omega arith in
      record {
        definition = g;
        is = is;
        known = known;
        inside = λ i.
            let low : cell / size < elements_of g.form = element_low cell (elements_of g.form) size (subst (λ n. cell < n) cells (in_place first cell (slice_index_or (globals_of m.typed) k no_global).cells i.high)) in
            subst (λ c. is_pointer (global_field (targets_of m) (first + c - 2)).holds ≡ true) at (field_points (cell / size) (cell % size) low there);
        near = cell % size;
        there = λ some. subst (λ c. IsInGlobal (globals_of m.typed) k (first + c)) begin (field_there 0 (cell % size) some there);
        pointer = λ some. subst (λ c. is_pointer (global_field (targets_of m) (first + c - 2)).holds ≡ true) begin (field_points 0 (cell % size) some there);
      }

pub globals_point : GlobalsPoint
globals_point m k cell h = by (slice_get (globals_in m.typed.program.items) k) refl h
  where
    by : (o : Option GlobalDefinition) → slice_get (globals_in m.typed.program.items) k ≡ o → is_pointer_of_global m.typed o cell ≡ true → IsPointerInTable m k cell
    by None is h = absurd (let z : false ≡ true = h in cc)
    by (Some g) is h = points_back m k g is cell h

-- ---- what a pointer refers to
-- cell i of elements of these fields
shape_same : (m : Assignment) (w : WrittenType) (b : Base) (stars : ℕ) (forms : List Form) → object b stars ≡ declared_kind w → length forms ≡ suc stars
    → (i : ℕ) → points_at (shape_fields m b forms) (i % length (shape_fields m b forms)) ≡ is_pointer_in m.typed w i
shape_same m w b stars [] same many i = absurd (omega (arith, many))
shape_same m w b zero (f ∷ []) same many i =
    subst (λ (k : Kind). points_at (base_fields m (own_mode f) b) (i % length (base_fields m (own_mode f) b))
    ≡ (Kinds.is_pointer k || slice_index_or (pointer_cells (References.base_fields m.typed (base_of k))) (i % length (References.base_fields m.typed (base_of k))) false)) same (fields_same m (own_mode f) b i)
shape_same m w b (suc stars) (f ∷ []) same many i = absurd (omega (arith, many))
shape_same m w b zero (f ∷ g ∷ below) same many i = absurd (omega (arith, many))
shape_same m w b (suc stars) (f ∷ g ∷ below) same many i =
    let pointer : Kinds.is_pointer (object b (suc stars)) ≡ true = lt-ltb 0 (suc stars) (omega arith) in
    one_same (record { mode = own_mode f; holds = Pointer (record { target = number m (record { base = b; forms = g ∷ below }); locks = type_locks (lock_count f) (g ∷ below) }) }) i
    ∙ ap (λ (p : Bool). p || slice_index_or (pointer_cells (References.base_fields m.typed w.ctype.base)) (i % length (References.base_fields m.typed w.ctype.base)) false) (sym pointer ∙ ap Kinds.is_pointer same)

pub pointees_point : PointeesPoint
pointees_point m k row is pointer w same i = by (pointer_kind k pointer)
  where
    by : IsPointerKind k → is_pointer (field_of_cell (targets_of m) (pointee m k row) i).holds ≡ is_pointer_in m.typed w i
    by p =
        let fits = pointees_fit m k row is pointer in
        let forms = map form_of (modes_of m row) in
        let less : suc p.below - 1 ≡ p.below = omega arith in
        let kind : object p.base p.below ≡ declared_kind w = sym (ap element_kind p.is ∙ ap (object p.base) less) ∙ same in
        let many : length forms ≡ suc p.below = map_length form_of (modes_of m row) ∙ many_modes m k row is ∙ ap stars_in p.is in
        let fields : (row_of (targets_of m) (pointee m k row)).fields ≡ shape_fields m p.base forms = fits.fields ∙ ap (λ z. shape_fields m (base_of z) forms) p.is in
        ap (λ list. points_at list (i % length list)) fields ∙ shape_same m w p.base p.below forms kind many i
