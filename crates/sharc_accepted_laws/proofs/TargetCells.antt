-- An element has as many cells as its type has in the source.
use Rattle.sharc_accepted_laws.proofs.{Imports.{◌≡◌, ℕ, suc, ◌+◌, ◌-◌, ◌<◌, ◌==◌, Bool, true, false, cond, List, [], ◌∷◌, length, refl, ap, ◌∙◌, sym, arith, bytes_eq, Contains, ne_eqb, AllByRecursion, Base, Declaration, StructDefinition, object, Numbered, entities_in, numbered, structs_in, Assignment, struct_cells, base_cells, element_cells, FieldMode, TableTarget as Target, CellsAre, Form, Shape, shapes_down, entity_shapes, shapes_of, shapes, members, struct_fields, base_fields, shape_fields, both, of_each}, Numbers.numbers_found}

pub member_count : (m : Assignment) (q : FieldMode) (n : ℕ) (list : List Declaration) → length (members m q n list) ≡ length list
member_count m q n [] = refl
member_count m q n (d ∷ rest) = ap suc (member_count m q (n + 1) rest)

pub struct_count : (m : Assignment) (q : FieldMode) (list : List StructDefinition) (name : List ℕ) → length (struct_fields m q list name) ≡ struct_cells list name
struct_count m q [] name = refl
struct_count m q (s ∷ rest) name = by (bytes_eq s.name.text name) (struct_count m q rest name)
  where
    by : (b : Bool) → length (struct_fields m q rest name) ≡ struct_cells rest name → length (cond b (members m q 0 s.fields) (struct_fields m q rest name)) ≡ cond b (length s.fields) (struct_cells rest name)
    by true h = member_count m q 0 s.fields
    by false h = h

pub base_count : (m : Assignment) (q : FieldMode) (b : Base) → length (base_fields m q b) ≡ base_cells m.typed b
base_count m q (Base.Struct name) = struct_count m q (structs_in m.typed.program.items) name
base_count m q _ = refl

shape_count : (m : Assignment) (b : Base) (fs : List Form) → 0 < length fs → length (shape_fields m b fs) ≡ element_cells m.typed (object b (length fs - 1))
shape_count m b [] some = absurd (omega (arith, some))
shape_count m b (f ∷ []) some = base_count m _ b
shape_count m b (f ∷ g ∷ below) some = let e : cond (length (f ∷ g ∷ below) - 1 == 0) (base_cells m.typed b) 1 ≡ 1 = ap (λ z. cond z (base_cells m.typed b) 1) (ne_eqb (length (f ∷ g ∷ below) - 1) 0 (λ is. omega (arith, is))) in sym e

-- no shape is of nothing
abbrev HasForms : Shape → Type 0
HasForms s = 0 < length s.forms

down_some : (b : Base) (fs : List Form) → AllByRecursion HasForms (shapes_down b fs)
down_some b [] = tt
down_some b (f ∷ below) = (omega arith, down_some b below)

list_some : (m : Assignment) (list : List Numbered) → AllByRecursion HasForms (shapes_of m list)
list_some m [] = (omega arith, (omega arith, tt))
list_some m (n ∷ rest) = both HasForms (entity_shapes m n) (shapes_of m rest) (down_some n.entity.written.ctype.base _) (list_some m rest)

pub has_forms : (m : Assignment) (s : Shape) → Contains (shapes m) s → 0 < length s.forms
has_forms m s has = of_each HasForms (shapes m) s (list_some m (numbered (entities_in m.typed.program.items))) has

pub cells_are : CellsAre
cells_are m s has = ap (λ (t : Target). length t.fields) (numbers_found m s has).row ∙ shape_count m s.base s.forms (has_forms m s has)
