-- Which kinds are integers, pointers and references, and how many cells an element has.
use Rattle.sharc_accepted_laws.proofs.{Imports.{◌≡◌, inl, inr, ℕ, ◌+◌, ◌-◌, ◌≤◌, ◌==◌, Bool, true, false, ◌||◌, cond, List, [], ◌∷◌, length, ap, ap₂, sym, ◌∙◌, subst, arith, lt-ltb, eqb-true, bytes_eq, false≢true, and_parts, Base, Struct, WrittenType, LowItems, Item, structure, global, Kind, object, array, is_integer, is_pointer, is_null, same_kind, agrees, stars_of, declared_kind, element_kind, Resolution, structs_in, made, IsInteger, IsHeld, element_cells, base_cells, struct_cells, is_reference}, Alike.{base_is as one_base}, Forms.{starred as pointer_pointer}}
use Rattle.sharc_tree.specs.Tree as tree
use Rattle.sharc_names.specs.Kinds.{function}
use Rattle.sharc_ctype_laws.specs.Constraints.{IsPointer}

-- ---- integers
-- what an integer goes to is one
pub integer_want : (want k : Kind) → agrees want k ≡ true → is_integer k ≡ true → is_integer want ≡ true
integer_want want (object b n) fair h = subst (λ t. cond t (is_integer want) (same_kind want (object b n)) ≡ true) h fair
integer_want want _ fair h = absurd (false≢true h)

-- ---- pointers
integer_no_reference : (k : Kind) → IsInteger k → is_reference k ≡ false
integer_no_reference k (b, t, is) = ap is_reference is

pointer_reference : (k : Kind) → IsPointer k → is_reference k ≡ true
pointer_reference k p = ap (λ b. b || is_null k) (pointer_pointer k p)

pub held_pointer : (k : Kind) → IsHeld k → is_reference k ≡ true → is_pointer k ≡ true
held_pointer k (inl i) h = absurd (false≢true (sym (integer_no_reference k i) ∙ h))
held_pointer k (inr p) h = pointer_pointer k p

pub held_integer : (k : Kind) → IsHeld k → is_reference k ≡ false → is_integer k ≡ true
held_integer k (inl (b, t, is)) h = ap is_integer is ∙ t
held_integer k (inr p) h = absurd (false≢true (sym h ∙ pointer_reference k p))

pub no_function_held : (k : Kind) → IsHeld k → k ≡ function → ⊥
no_function_held k (inl (b, t, is)) e = false≢true (ap is_integer (sym e) ∙ ap is_integer is ∙ t)
no_function_held k (inr p) e = false≢true (ap is_reference (sym e) ∙ pointer_reference k p)

-- ---- what is made
pub one_kind : (j k : Kind) → same_kind j k ≡ true → j ≡ k
one_kind (object a m) (object b n) h = let p = and_parts _ _ h in ap₂ object (one_base a b p.0) (eqb-true m n p.1)
one_kind _ _ h = absurd (false≢true h)

pub made_pointer : (want : Kind) (w : WrittenType) → same_kind want (made w) ≡ true → is_pointer want ≡ true
made_pointer want w h = ap is_pointer (one_kind want (made w) h) ∙ lt-ltb 0 (stars_of w + 1) (omega arith)

pub made_element : (want : Kind) (w : WrittenType) → same_kind want (made w) ≡ true → element_kind want ≡ declared_kind w
made_element want w h = let e : stars_of w + 1 - 1 ≡ stars_of w = omega arith in ap element_kind (one_kind want (made w) h) ∙ ap (object w.ctype.base) e

-- ---- cells
struct_some : (items : List Item) → LowItems items → (name : List ℕ) → 1 ≤ struct_cells (structs_in items) name
struct_some [] low name = omega arith
struct_some (structure s ∷ rest) low name = by (bytes_eq s.name.text name) (struct_some rest low.1 name)
  where
    by : (b : Bool) → 1 ≤ struct_cells (structs_in rest) name → 1 ≤ cond b (length s.fields) (struct_cells (structs_in rest) name)
    by true more = let few = low.0.0 in omega (arith, few)
    by false more = more
struct_some (global g ∷ rest) low name = struct_some rest low.1 name
struct_some (tree.function f ∷ rest) low name = struct_some rest low.1 name

base_some : (r : Resolution) → LowItems r.program.items → (b : Base) → 1 ≤ base_cells r b
base_some r low (Struct name) = struct_some r.program.items low name
base_some r low _ = omega arith

cells_some : (r : Resolution) → LowItems r.program.items → (b : Base) (z : Bool) → 1 ≤ cond z (base_cells r b) 1
cells_some r low b true = base_some r low b
cells_some r low b false = omega arith

-- an element has a cell at least
pub element_some : (r : Resolution) → LowItems r.program.items → (k : Kind) → 1 ≤ element_cells r k
element_some r low (object b stars) = cells_some r low b (stars == 0)
element_some r low (array b stars) = cells_some r low b (stars == 0)
element_some r low _ = omega arith
