-- The cells of an lvalue's element are there.
use Rattle.sharc_accepted_laws.proofs.Imports.{◌≡◌, ℕ, zero, suc, ◌+◌, ◌-◌, ◌*◌, ◌<◌, ◌≤◌, List, [], ◌∷◌, length, get_or as slice_index_or, refl, ap, sym, ◌∙◌, subst, arith, Some, suc-mul, slice_get, GlobalDefinition, Code, Cell, no_global, elements_of, Resolution, global_at, globals_in, Assignment, first_cell, cells_in, granules_in, globals_from, globals_of, StaticType, Field, no_field, field_at, global_field, cells_of, Element, OfGlobal, Label, Itself, IsInGlobal, HasCell, IsSibling, HasBefore, HasTables, GlobalsAre, global_element, targets_of, HasBaseIn, IsCellNumber, same_some, none_some}

-- ---- the globals of code
record IsEntry (r : Resolution) (at : ℕ) (list : List GlobalDefinition) (g : ℕ) (d : GlobalDefinition) : Type 0 where
  inside : g < length (globals_from r at list)
  cells : (slice_index_or (globals_from r at list) g no_global).cells ≡ cells_in r d
  low : at ≤ (slice_index_or (globals_from r at list) g no_global).granule

entry_of : (r : Resolution) (at : ℕ) (list : List GlobalDefinition) (g : ℕ) (d : GlobalDefinition) → slice_get list g ≡ Some d → IsEntry r at list g d
entry_of r at [] g d is = absurd (none_some d is)
entry_of r at (x ∷ rest) zero d is = record { inside = omega arith; cells = ap (cells_in r) (same_some x d is); low = omega arith }
entry_of r at (x ∷ rest) (suc g) d is =
    let w = entry_of r (at + granules_in r x) rest g d is in
    record { inside = omega (arith, w.inside); cells = w.cells; low = omega (arith, w.low) }

-- a cell among those of a global
in_global_cells : (m : Assignment) (code : Code) → HasTables m code → (g j : ℕ) (d : GlobalDefinition) → global_at m.typed g ≡ Some d → j < cells_in m.typed d → IsInGlobal code g (first_cell (globals_of m.typed) g + j)
in_global_cells m code tables g j d is low =
    let w = entry_of m.typed 1 (globals_in m.typed.program.items) g d is in
    let begins : 2 * (slice_index_or (globals_of m.typed) g no_global).granule ≤ first_cell (globals_of m.typed) g + j = omega arith in
    let ends : first_cell (globals_of m.typed) g + j < 2 * (slice_index_or (globals_of m.typed) g no_global).granule + (slice_index_or (globals_of m.typed) g no_global).cells = omega (arith, w.cells, low) in
    record {
      is = subst (λ l. g < length l) (sym tables.globals) w.inside;
      from = subst (λ l. 2 * (slice_index_or l g no_global).granule ≤ first_cell (globals_of m.typed) g + j) (sym tables.globals) begins;
      until = subst (λ l. first_cell (globals_of m.typed) g + j < 2 * (slice_index_or l g no_global).granule + (slice_index_or l g no_global).cells) (sym tables.globals) ends;
    }

-- granule 0 is no global's
pub first_low : (m : Assignment) (g : ℕ) (d : GlobalDefinition) → global_at m.typed g ≡ Some d → 2 ≤ first_cell (globals_of m.typed) g
first_low m g d is = let low = (entry_of m.typed 1 (globals_in m.typed.program.items) g d is).low in omega (arith, low)

pub below_product : (e c l n : ℕ) → e < c → n < l → e * l + n < c * l
below_product e zero l n low inside = absurd (omega (arith, low))
below_product zero (suc c) l n low inside = let product = suc-mul c l in omega (arith, product, inside)
below_product (suc e) (suc c) l n low inside =
    let more = below_product e c l n (omega (arith, low)) inside in
    let left = suc-mul e l in
    let right = suc-mul c l in
    omega (arith, more, left, right)

-- ---- the cells of an element
-- the cell is there where its base is not NULL, it is this field, and so many cells come before it
pub record IsCellOf (m : Assignment) (code : Code) (q : Label) (n : ℕ) (cell : Cell) (f : Field) : Type 0 where
  pub there : HasCell (targets_of m) code q cell f
  pub before : HasBefore code q n cell

-- two fields of one element
pub record ArePairOf (m : Assignment) (code : Code) (q : Label) (n k : ℕ) (a b : Cell) (f g : Field) : Type 0 where
  pub first : IsCellOf m code q n a f
  pub second : IsCellOf m code q k b g
  pub sibling : IsSibling q n k a b

pub object_cell : (m : Assignment) (code : Code) (q : Label) (r : ℕ) (s : StaticType) (n : ℕ) → HasBaseIn code q r s → n < cells_of (targets_of m) s.target → IsCellOf m code q n (Cell.Object r n) (field_at (targets_of m) s.target n)
object_cell m code q r s n base inside = record { there = record { field = (base.is_ref, (s, base.refers, inside, refl)); base = base.known }; before = tt }

pub element_cell : (m : Assignment) (code : Code) (q : Label) (i r : ℕ) (e : Element) (s : StaticType) (n : ℕ) → HasBaseIn code q r s → IsCellNumber q r e i n → n < cells_of (targets_of m) s.target → IsCellOf m code q n (Cell.ObjectAt r i) (field_at (targets_of m) s.target n)
element_cell m code q i r e s n base index inside = record { there = record { field = (base.is_ref, (s, n, e, base.refers, index, inside, refl)); base = base.known }; before = tt }

pub object_pair : (m : Assignment) (code : Code) (q : Label) (r : ℕ) (s : StaticType) (n k : ℕ) → HasBaseIn code q r s → n < cells_of (targets_of m) s.target → k < cells_of (targets_of m) s.target
    → ArePairOf m code q n k (Cell.Object r n) (Cell.Object r k) (field_at (targets_of m) s.target n) (field_at (targets_of m) s.target k)
object_pair m code q r s n k base inside other = record { first = object_cell m code q r s n base inside; second = object_cell m code q r s k base other; sibling = (Itself refl, omega arith, omega arith) }

pub element_pair : (m : Assignment) (code : Code) (q : Label) (i r : ℕ) (e : Element) (s : StaticType) (n k : ℕ) → HasBaseIn code q r s → IsCellNumber q r e i n → IsCellNumber q r e (i + 1) k → n < cells_of (targets_of m) s.target → k < cells_of (targets_of m) s.target
    → ArePairOf m code q n k (Cell.ObjectAt r i) (Cell.ObjectAt r (i + 1)) (field_at (targets_of m) s.target n) (field_at (targets_of m) s.target k)
element_pair m code q i r e s n k base index next inside other = record {
  first = element_cell m code q i r e s n base index inside;
  second = element_cell m code q (i + 1) r e s k base next other;
  sibling = (Itself refl, (e, index, next));
}

-- in a global
module _ (globals_are : GlobalsAre) (m : Assignment) (code : Code) (tables : HasTables m code) (q : Label) (g : ℕ) (d : GlobalDefinition) (is : global_at m.typed g ≡ Some d) where
  abbrev element : List Field
  element = global_element m d

  -- cell n of element e
  placed : (e n : ℕ) → e < elements_of d.form → n < length element → IsInGlobal code g (first_cell (globals_of m.typed) g + (e * length element + n))
  placed e n low inside =
      let same = (globals_are m g d is e n low inside).cells in
      let within = below_product e (elements_of d.form) (length (global_element m d)) n low inside in
      in_global_cells m code tables g (e * length (global_element m d) + n) d is (subst (λ k. e * length (global_element m d) + n < elements_of d.form * k) same within)

  before_of : (n : ℕ) → 2 * (slice_index_or code.globals.items g no_global).granule + n ≤ first_cell (globals_of m.typed) g + n
  before_of n = let here : 2 * (slice_index_or (globals_of m.typed) g no_global).granule + n ≤ first_cell (globals_of m.typed) g + n = omega arith in subst (λ l. 2 * (slice_index_or l g no_global).granule + n ≤ first_cell (globals_of m.typed) g + n) (sym tables.globals) here

  pub global_cell_at : (n : ℕ) → 0 < elements_of d.form → n < length (global_element m d) → IsCellOf m code q n (Cell.Global g (first_cell (globals_of m.typed) g + n)) (slice_index_or (global_element m d) n no_field)
  global_cell_at n low inside =
      let e : 0 * length (global_element m d) + n ≡ n = omega arith in
      let at = globals_are m g d is 0 n low inside in
      record {
        there = record {
          field = (
            subst (λ k. IsInGlobal code g (first_cell (globals_of m.typed) g + k)) e (placed 0 n low inside),
            sym (ap (λ k. global_field (targets_of m) (first_cell (globals_of m.typed) g + k - 2)) (sym e) ∙ at.at),
          );
          base = tt;
        };
        before = before_of n;
      }

  pub global_pair : (n k : ℕ) → 0 < elements_of d.form → n < length (global_element m d) → k < length (global_element m d)
      → ArePairOf m code q n k (Cell.Global g (first_cell (globals_of m.typed) g + n)) (Cell.Global g (first_cell (globals_of m.typed) g + k)) (slice_index_or (global_element m d) n no_field) (slice_index_or (global_element m d) k no_field)
  global_pair n k low inside other =
      let begins = first_low m g d is in
      record { first = global_cell_at n low inside; second = global_cell_at k low other; sibling = (refl, omega (arith, begins), omega arith) }

  pub place_cell : (i count elements : ℕ) (e : Element) (n : ℕ) → count ≡ length (global_element m d) → elements ≡ elements_of d.form → q.ints i ≡ OfGlobal (first_cell (globals_of m.typed) g + n) count elements e → n < length (global_element m d)
      → IsCellOf m code q n (Cell.GlobalAt g i) (slice_index_or (global_element m d) n no_field)
  place_cell i count elements e n many all index inside = record {
    there = record { field = (first_cell (globals_of m.typed) g + n, count, elements, e, index, at); base = tt };
    before = (first_cell (globals_of m.typed) g + n, count, elements, e, index, before_of n);
  }
    where
      at : (k : ℕ) → k < elements → IsInGlobal code g (first_cell (globals_of m.typed) g + n + k * count) × (slice_index_or (global_element m d) n no_field ≡ global_field (targets_of m) (first_cell (globals_of m.typed) g + n + k * count - 2))
      at k low =
          let inside_all : k < elements_of d.form = omega (arith, low, all) in
          let product : k * count ≡ k * length (global_element m d) = ap (λ c. k * c) many in
          let place : first_cell (globals_of m.typed) g + (k * length (global_element m d) + n) ≡ first_cell (globals_of m.typed) g + n + k * count = omega (arith, product) in
          (subst (IsInGlobal code g) place (placed k n inside_all inside), sym (ap (λ p. global_field (targets_of m) (p - 2)) (sym place) ∙ (globals_are m g d is k n inside_all inside).at))

  pub place_pair : (i count elements : ℕ) (e : Element) (n k : ℕ) → count ≡ length (global_element m d) → elements ≡ elements_of d.form → q.ints i ≡ OfGlobal (first_cell (globals_of m.typed) g + n) count elements e → q.ints (i + 1) ≡ OfGlobal (first_cell (globals_of m.typed) g + k) count elements e
      → n < length (global_element m d) → k < length (global_element m d)
      → ArePairOf m code q n k (Cell.GlobalAt g i) (Cell.GlobalAt g (i + 1)) (slice_index_or (global_element m d) n no_field) (slice_index_or (global_element m d) k no_field)
  place_pair i count elements e n k many all index next inside other =
      let begins = first_low m g d is in
      let from : first_cell (globals_of m.typed) g + n - n + k ≡ first_cell (globals_of m.typed) g + k = omega arith in
      record {
        first = place_cell i count elements e n many all index inside;
        second = place_cell (i + 1) count elements e k many all next other;
        sibling = (refl, (first_cell (globals_of m.typed) g + n, count, elements, e, index, omega (arith, begins), subst (λ p. q.ints (i + 1) ≡ OfGlobal p count elements e) (sym from) next));
      }
