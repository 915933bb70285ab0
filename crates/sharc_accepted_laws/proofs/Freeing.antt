-- The layouts of elements are those of the rows: what Free clears.
use Rattle.sharc_accepted_laws.proofs.{Imports.{◌≡◌, ⊎_elim, ℕ, zero, suc, ◌+◌, ◌-◌, ◌*◌, ◌^◌, ◌<◌, ◌≤◌, Bool, true, false, cond, List, [], ◌∷◌, ◌++◌, length, get_or as slice_index_or, refl, ap, sym, ◌∙◌, subst, arith, Some, bytes_eq, false≢true, cases_lt, AllByRecursion, slice_get, slice_index, Base, Declaration, StructDefinition, object, is_pointer as is_pointer_kind, declared_kind, Code, Layout, no_layout, layout_at, structs_in, WithinLimits, Assignment, written, declared_row, modes_of, struct_layout, base_layout, layout_of, pointers_among, layouts_from, layouts_of, all_pointers, pointers_of, FieldMode, Field, TableTarget as Target, no_field, row_of, IsLayout, LayoutsAre, Form, number, own_mode, base_content, pointer_content, declared_content, single, members, struct_fields, base_fields, shape_fields, targets_of, same_some, none_some, some_there}, TargetCells.{member_count, has_forms}, Good.not_pointer, TargetMembers.members_at, Numbers.numbers_found, Table.past_end}
use Rattle.sharc_invariant.specs.Types.{is_pointer}
use Rattle.sharc_accepted_laws.specs.Shapes.{kind_of}

-- a layout says which of these fields are pointers
record IsLaid (laid : Layout) (pointers : List ℕ) (fields : List Field) : Type 0 where
  cells : laid.cells ≡ length fields
  in_order : laid.from ≤ laid.until
  few : laid.until < 2 ^ 32
  all : (k : ℕ) → is_pointer (slice_index_or fields k no_field).holds ≡ true → (i : ℕ) × (laid.from ≤ i) × (i < laid.until) × (slice_index pointers i ≡ k)
  only : (i : ℕ) → laid.from ≤ i → i < laid.until → is_pointer (slice_index_or fields (slice_index pointers i) no_field).holds ≡ true

-- ---- elements of one cell
plain_cell : (f : Field) → is_pointer f.holds ≡ false → (k : ℕ) → is_pointer (slice_index_or (f ∷ []) k no_field).holds ≡ true → ⊥
plain_cell f plain zero is = false≢true (sym plain ∙ is)
plain_cell f plain (suc k) is = false≢true is

plain_laid : (from : ℕ) (pointers : List ℕ) (f : Field) → from < 2 ^ 32 → is_pointer f.holds ≡ false → IsLaid (record { cells = 1; from = from; until = from }) pointers (f ∷ [])
plain_laid from pointers f low plain = record {
  cells = refl;
  in_order = omega arith;
  few = low;
  all = λ k is. absurd (plain_cell f plain k is);
  only = λ i first last. absurd (omega (arith, first, last));
}

-- ---- the pointers of a struct
content_pointer : (m : Assignment) (n : ℕ) (d : Declaration) → is_pointer (declared_content m n d) ≡ is_pointer_kind (declared_kind d.written)
content_pointer m n d = by (is_pointer_kind (declared_kind d.written))
  where
    by : (b : Bool) → is_pointer (cond b (pointer_content m n d.written.ctype.base (modes_of m (declared_row m.typed written d.name.site.token))) (base_content d.written.ctype.base)) ≡ b
    by true = refl
    by false = not_pointer d.written.ctype.base

-- the place of the declaration k among the pointers
pointer_place : (n : ℕ) (list : List Declaration) (k : ℕ) (d : Declaration) → slice_get list k ≡ Some d → is_pointer_kind (declared_kind d.written) ≡ true
    → (i : ℕ) × (i < length (pointers_among n list)) × (slice_index (pointers_among n list) i ≡ n + k)
pointer_place n [] k d is pointer = absurd (none_some d is)
pointer_place n (x ∷ rest) zero d is pointer = by (is_pointer_kind (declared_kind x.written)) refl
  where
    by : (b : Bool) → is_pointer_kind (declared_kind x.written) ≡ b
        → (i : ℕ) × (i < length (cond b (n ∷ pointers_among (n + 1) rest) (pointers_among (n + 1) rest))) × (slice_index (cond b (n ∷ pointers_among (n + 1) rest) (pointers_among (n + 1) rest)) i ≡ n + zero)
    by true e = (zero, omega arith, omega arith)
    by false e = absurd (false≢true (sym e ∙ ap (λ (z : Declaration). is_pointer_kind (declared_kind z.written)) (same_some x d is) ∙ pointer))
pointer_place n (x ∷ rest) (suc k) d is pointer = by (is_pointer_kind (declared_kind x.written)) (pointer_place (n + 1) rest k d is pointer)
  where
    by : (b : Bool) → (i : ℕ) × (i < length (pointers_among (n + 1) rest)) × (slice_index (pointers_among (n + 1) rest) i ≡ n + 1 + k)
        → (i : ℕ) × (i < length (cond b (n ∷ pointers_among (n + 1) rest) (pointers_among (n + 1) rest))) × (slice_index (cond b (n ∷ pointers_among (n + 1) rest) (pointers_among (n + 1) rest)) i ≡ n + suc k)
    by true (i, low, at) = (suc i, omega (arith, low), omega (arith, at))
    by false (i, low, at) = (i, low, omega (arith, at))

-- and what is at a place of theirs
record IsPointerAt (n : ℕ) (list : List Declaration) (j : ℕ) : Type 0 where
  k : ℕ
  d : Declaration
  is : slice_get list k ≡ Some d
  pointer : is_pointer_kind (declared_kind d.written) ≡ true
  place : j ≡ n + k

pointer_there : (n : ℕ) (list : List Declaration) (i : ℕ) → i < length (pointers_among n list) → IsPointerAt n list (slice_index (pointers_among n list) i)
pointer_there n [] i low = absurd (omega (arith, low))
pointer_there n (x ∷ rest) i low = by (is_pointer_kind (declared_kind x.written)) refl i low (pointer_there (n + 1) rest)
  where
    later : (j : ℕ) → IsPointerAt (n + 1) rest j → IsPointerAt n (x ∷ rest) j
    later j w = let place = w.place in record { k = suc w.k; d = w.d; is = w.is; pointer = w.pointer; place = omega (arith, place) }

    by : (b : Bool) → is_pointer_kind (declared_kind x.written) ≡ b → (i : ℕ) → i < length (cond b (n ∷ pointers_among (n + 1) rest) (pointers_among (n + 1) rest))
        → ((i : ℕ) → i < length (pointers_among (n + 1) rest) → IsPointerAt (n + 1) rest (slice_index (pointers_among (n + 1) rest) i))
        → IsPointerAt n (x ∷ rest) (slice_index (cond b (n ∷ pointers_among (n + 1) rest) (pointers_among (n + 1) rest)) i)
    by true e zero low more = record { k = zero; d = x; is = refl; pointer = e; place = omega arith }
    by true e (suc i) low more = later _ (more i (omega (arith, low)))
    by false e i low more = later _ (more i low)

among_few : (n : ℕ) (list : List Declaration) → length (pointers_among n list) ≤ length list
among_few n [] = omega arith
among_few n (x ∷ rest) = by (is_pointer_kind (declared_kind x.written)) (among_few (n + 1) rest)
  where
    by : (b : Bool) → length (pointers_among (n + 1) rest) ≤ length rest → length (cond b (n ∷ pointers_among (n + 1) rest) (pointers_among (n + 1) rest)) ≤ length (x ∷ rest)
    by true low = omega (arith, low)
    by false low = omega (arith, low)

members_laid : (m : Assignment) (q : FieldMode) (pointers : List ℕ) (at : ℕ) (fields : List Declaration) → at + length (pointers_among 0 fields) < 2 ^ 32
    → ((k : ℕ) → k < length (pointers_among 0 fields) → slice_index pointers (at + k) ≡ slice_index (pointers_among 0 fields) k)
    → IsLaid (record { cells = length fields; from = at; until = at + length (pointers_among 0 fields) }) pointers (members m q 0 fields)
members_laid m q pointers at fields low same = record {
  cells = sym (member_count m q 0 fields);
  in_order = omega arith;
  few = low;
  all = all;
  only = only;
}
  where
    holds_at : (k : ℕ) (d : Declaration) → slice_get fields k ≡ Some d → is_pointer (slice_index_or (members m q 0 fields) k no_field).holds ≡ is_pointer_kind (declared_kind d.written)
    holds_at k d is = ap (λ (f : Field). is_pointer f.holds) (members_at m q 0 fields k d is) ∙ content_pointer m (0 + k) d

    found : (k : ℕ) → k < length fields → is_pointer (slice_index_or (members m q 0 fields) k no_field).holds ≡ true → (i : ℕ) × (at ≤ i) × (i < at + length (pointers_among 0 fields)) × (slice_index pointers i ≡ k)
    found k inside is =
        let d = some_there fields k inside in
        let w = pointer_place 0 fields k d.0 d.1 (sym (holds_at k d.0 d.1) ∙ is) in
        let there = same w.0 w.1 in
        (at + w.0, omega arith, omega (arith, w.1), omega (arith, there, w.2))

    all : (k : ℕ) → is_pointer (slice_index_or (members m q 0 fields) k no_field).holds ≡ true → (i : ℕ) × (at ≤ i) × (i < at + length (pointers_among 0 fields)) × (slice_index pointers i ≡ k)
    all k is =
        let many = member_count m q 0 fields in
        ⊎_elim (λ inside. found k inside is) (λ high. absurd (false≢true (sym (ap (λ (f : Field). is_pointer f.holds) (past_end (members m q 0 fields) k (omega (arith, high, many)))) ∙ is))) (cases_lt k (length fields))

    only : (i : ℕ) → at ≤ i → i < at + length (pointers_among 0 fields) → is_pointer (slice_index_or (members m q 0 fields) (slice_index pointers i) no_field).holds ≡ true
    only i first last =
        let e : at + (i - at) ≡ i = omega (arith, first) in
        let w = pointer_there 0 fields (i - at) (omega (arith, first, last)) in
        let value : slice_index pointers i ≡ slice_index (pointers_among 0 fields) (i - at) = ap (slice_index pointers) (sym e) ∙ same (i - at) (omega (arith, first, last)) in
        let which : slice_index pointers i ≡ w.k = omega (arith, value, w.place) in
        ap (λ j. is_pointer (slice_index_or (members m q 0 fields) j no_field).holds) which ∙ holds_at w.k w.d w.is ∙ w.pointer

-- ---- the layouts of structs
index_left : (a b : List ℕ) (k : ℕ) → k < length a → slice_index (a ++ b) k ≡ slice_index a k
index_left [] b k low = absurd (omega (arith, low))
index_left (x ∷ a) b zero low = refl
index_left (x ∷ a) b (suc k) low = index_left a b k (omega (arith, low))

index_right : (a b : List ℕ) (j k : ℕ) → j ≡ length a + k → slice_index (a ++ b) j ≡ slice_index b k
index_right [] b j k e = let z : j ≡ k = omega (arith, e) in ap (slice_index b) z
index_right (x ∷ a) b zero k e = absurd (omega (arith, e))
index_right (x ∷ a) b (suc j) k e = index_right a b j k (omega (arith, e))

size : (a b : List ℕ) → length (a ++ b) ≡ length a + length b
size [] b = omega arith
size (x ∷ a) b = let e = size a b in omega (arith, e)

struct_laid : (m : Assignment) (q : FieldMode) (layouts : List Layout) (pointers : List ℕ) (n at : ℕ) (list : List StructDefinition) (name : List ℕ) → at + length (all_pointers list) < 2 ^ 32
    → ((k : ℕ) → slice_index_or layouts (n + k) no_layout ≡ slice_index_or (layouts_from at list) k no_layout) → ((k : ℕ) → slice_index pointers (at + k) ≡ slice_index (all_pointers list) k)
    → IsLaid (slice_index_or layouts (struct_layout n list name) no_layout) pointers (struct_fields m q list name)
struct_laid m q layouts pointers n at [] name low laid values =
    let e : n ≡ n + 0 = omega arith in
    subst (λ l. IsLaid l pointers (single q (Base.Struct name) ∷ [])) (sym (ap (λ k. slice_index_or layouts k no_layout) e ∙ laid 0)) (plain_laid at pointers (single q (Base.Struct name)) (omega (arith, low)) refl)
struct_laid m q layouts pointers n at (s ∷ rest) name low laid values = by (bytes_eq s.name.text name) (struct_laid m q layouts pointers (n + 1) (at + length (pointers_among 0 s.fields)) rest name (omega (arith, low, many)) next_laid next_values)
  where
    many : length (pointers_among 0 s.fields ++ all_pointers rest) ≡ length (pointers_among 0 s.fields) + length (all_pointers rest)
    many = size (pointers_among 0 s.fields) (all_pointers rest)

    next_laid : (k : ℕ) → slice_index_or layouts (n + 1 + k) no_layout ≡ slice_index_or (layouts_from (at + length (pointers_among 0 s.fields)) rest) k no_layout
    next_laid k = let e : n + 1 + k ≡ n + suc k = omega arith in ap (λ i. slice_index_or layouts i no_layout) e ∙ laid (suc k)

    next_values : (k : ℕ) → slice_index pointers (at + length (pointers_among 0 s.fields) + k) ≡ slice_index (all_pointers rest) k
    next_values k =
        let e : at + length (pointers_among 0 s.fields) + k ≡ at + (length (pointers_among 0 s.fields) + k) = omega arith in
        ap (slice_index pointers) e ∙ values (length (pointers_among 0 s.fields) + k) ∙ index_right (pointers_among 0 s.fields) (all_pointers rest) (length (pointers_among 0 s.fields) + k) k refl

    here : IsLaid (slice_index_or layouts n no_layout) pointers (members m q 0 s.fields)
    here =
        let e : n ≡ n + 0 = omega arith in
        subst (λ l. IsLaid l pointers (members m q 0 s.fields)) (sym (ap (λ k. slice_index_or layouts k no_layout) e ∙ laid 0))
        (members_laid m q pointers at s.fields (omega (arith, low, many)) (λ k inside. values k ∙ index_left (pointers_among 0 s.fields) (all_pointers rest) k inside))

    by : (b : Bool) → IsLaid (slice_index_or layouts (struct_layout (n + 1) rest name) no_layout) pointers (struct_fields m q rest name)
        → IsLaid (slice_index_or layouts (cond b n (struct_layout (n + 1) rest name)) no_layout) pointers (cond b (members m q 0 s.fields) (struct_fields m q rest name))
    by true more = here
    by false more = more

pointers_few : (list : List StructDefinition) → AllByRecursion (λ s. length s.fields ≤ 256) list → length (all_pointers list) ≤ 256 * length list
pointers_few [] all = omega arith
pointers_few (s ∷ rest) all = let more = pointers_few rest all.1 in let low = all.0 in let few = among_few 0 s.fields in let many = size (pointers_among 0 s.fields) (all_pointers rest) in omega (arith, more, low, few, many)

-- ---- each shape
module _ (m : Assignment) (few : 1 + length (all_pointers (structs_in m.typed.program.items)) < 2 ^ 32) where
  abbrev layouts : List Layout
  layouts = layouts_of m.typed

  abbrev pointers : List ℕ
  pointers = pointers_of m.typed

  abbrev structs : List StructDefinition
  structs = structs_in m.typed.program.items

  base_laid : (q : FieldMode) (b : Base) → IsLaid (slice_index_or layouts (base_layout structs b) no_layout) pointers (base_fields m q b)
  base_laid q (Base.Struct name) =
      struct_laid m q layouts pointers 2 1 structs name few
      (λ k. let e : 2 + k ≡ suc (suc k) = omega arith in ap (λ i. slice_index_or layouts i no_layout) e) (λ k. let e : 1 + k ≡ suc k = omega arith in ap (slice_index pointers) e)
  base_laid q k = plain_laid 0 pointers (single q k) (omega arith) refl

  pointer_laid : (f : Field) → is_pointer f.holds ≡ true → IsLaid (record { cells = 1; from = 0; until = 1 }) pointers (f ∷ [])
  pointer_laid f is = record { cells = refl; in_order = omega arith; few = omega arith; all = all; only = λ i first last. let e : i ≡ 0 = omega (arith, last) in ap (λ j. is_pointer (slice_index_or (f ∷ []) (slice_index pointers j) no_field).holds) e ∙ is }
    where
      all : (k : ℕ) → is_pointer (slice_index_or (f ∷ []) k no_field).holds ≡ true → (i : ℕ) × (0 ≤ i) × (i < 1) × (slice_index pointers i ≡ k)
      all zero h = (0, omega arith, omega arith, refl)
      all (suc k) h = absurd (false≢true h)

  shape_laid : (b : Base) (fs : List Form) → 0 < length fs → IsLaid (slice_index_or layouts (layout_of structs (object b (length fs - 1))) no_layout) pointers (shape_fields m b fs)
  shape_laid b [] some = absurd (omega (arith, some))
  shape_laid b (f ∷ []) some = base_laid (own_mode f) b
  shape_laid b (f ∷ g ∷ below) some =
      let e : length (f ∷ g ∷ below) - 1 ≡ suc (length below) = omega arith in
      subst (λ n. IsLaid (slice_index_or layouts (layout_of structs (object b n)) no_layout) pointers (shape_fields m b (f ∷ g ∷ below))) (sym e) (pointer_laid _ refl)

pub layouts_are : WithinLimits → LayoutsAre
layouts_are limits m typed code tables s has =
    let within = limits m.typed.program typed in
    let total = pointers_few (structs_in m.typed.program.items) within.fields in
    let laid = shape_laid m (omega (arith, within.structs, total)) s.base s.forms (has_forms m s has) in
    let row = numbers_found m s has in
    let fields_is : (row_of (targets_of m) (number m s)).fields ≡ shape_fields m s.base s.forms = ap (λ (t : Target). t.fields) row.row in
    moved m code (layout_of (structs_in m.typed.program.items) (kind_of s)) (number m s) (shape_fields m s.base s.forms) tables.layouts tables.pointers fields_is laid
  where
    moved : (m : Assignment) (code : Code) (l t : ℕ) (fields : List Field) → code.layouts.items ≡ layouts_of m.typed → code.pointers.items ≡ pointers_of m.typed → (row_of (targets_of m) t).fields ≡ fields
        → IsLaid (slice_index_or (layouts_of m.typed) l no_layout) (pointers_of m.typed) fields → IsLayout (targets_of m) code l t
    moved m code l t fields a b c w =
        let laid_is : IsLaid (layout_at code l) code.pointers.items (row_of (targets_of m) t).fields =
        subst (λ z. IsLaid (slice_index_or z l no_layout) code.pointers.items (row_of (targets_of m) t).fields) (sym a)
        (subst (λ z. IsLaid (slice_index_or (layouts_of m.typed) l no_layout) z (row_of (targets_of m) t).fields) (sym b)
        (subst (λ z. IsLaid (slice_index_or (layouts_of m.typed) l no_layout) (pointers_of m.typed) z) (sym c) w)) in
        record { cells = laid_is.cells; in_order = laid_is.in_order; few = laid_is.few; all = laid_is.all; only = laid_is.only }
