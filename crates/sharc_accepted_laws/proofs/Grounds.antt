-- What lvalues name, as sharc_typed_laws reads it off them.
use Rattle.sharc_accepted_laws.proofs.{Imports.{◌≡◌, ℕ, Bool, true, false, cond, List, refl, ap, sym, ◌∙◌, Option, Some, None, false≢true, AllByRecursion, Dot, Arrow, Negate, Dereference, expressions, Expression, identifier, parentheses, index, field, unary, Named, is_array, Resolution, named_at, global_at, kind_at, element_cells, global_elements, field_place_named, modes_at, Sharing, IsExpression, Context, in_global_at, in_object_at, global_of, has_base, named_target, own_field, target, StaticType, Setting, no_type, Typing, Ground, type_by, ground_of, static_of, entry_by, entry_of, LvaluesFit, pointer_of, IsArrayOf, ArraysFit, list_or, modes_of_pointer, kind_of_pointer, cells_in_each, GroundsFit, front}, AccessPointing.has_pointer_modes, Standing.lvalue_cells, Fields.same_global, Members.{first_of as self}}

name_base : (n : Named) (k : ℕ) → has_base (named_target n k) ≡ false
name_base (Named.Field n) k = refl
name_base _ k = refl

name_array : (n : Named) (k g j : ℕ) → named_target n k ≡ in_global_at g j → ⊥
name_array (Named.Field n) k g j h = cc
name_array _ k g j h = cc

module _ (z : Setting) (f : ℕ) (y : Typing) (c : Context) (entries : (p : Expression) → y.entry c p ≡ entry_of c p) where
  abbrev r : Resolution
  r = c.program.typed

  abbrev Modes : Option Expression → Type 0
  Modes o = (p : Expression) → o ≡ Some p → (modes : List Sharing) × (modes_at c.program p ≡ Some modes)

  abbrev base_by : Option Expression → StaticType
  base_by o = static_of c (kind_of_pointer r o) (modes_of_pointer c.program o)

  pointed : (p : Expression) → (modes : List Sharing) × (modes_at c.program p ≡ Some modes) → type_by (y.entry c p) ≡ base_by (Some p)
  pointed p w = ap type_by (entries p) ∙ ap (λ o. type_by (entry_by c (kind_at r p) o)) w.1 ∙ sym (ap (λ o. static_of c (kind_at r p) (list_or o)) w.1)

  base_is : (own : Option ℕ) (e : Expression) → Modes (pointer_of r e) → has_base (target r own e) ≡ true → (ground_of z f y c e).base ≡ base_by (pointer_of r e)
  base_is own (identifier s i) h has = absurd (false≢true (sym (name_base (named_at r i.site.token) (own_field own 0)) ∙ has))
  base_is own (parentheses s a) h has = base_is own a h has
  base_is own (index s a i) h has = by (is_array (kind_at r a)) h has
    where
      by : (b : Bool) → Modes (cond b None (Some a)) → has_base (cond b (in_global_at (global_of (target r None a)) (own_field own 0)) (in_object_at (own_field own 0))) ≡ true
          → cond b no_type (type_by (y.entry c a)) ≡ base_by (cond b None (Some a))
      by true k there = absurd (false≢true there)
      by false k there = pointed a (k a refl)
  base_is own (field s a Dot n) h has = base_is (Some (own_field own (field_place_named r (named_at r n.site.token)))) a h has
  base_is own (field s a Arrow n) h has = pointed a (h a refl)
  base_is own (unary s Dereference a) h has = pointed a (h a refl)
  base_is own _ h has = absurd (false≢true has)

  -- and the pointer that leads there
  leads_is : (e : Expression) → (ground_of z f y c e).pointer ≡ pointer_of r e
  leads_is (parentheses s a) = leads_is a
  leads_is (field s a Dot n) = leads_is a
  leads_is (unary s Negate a) = refl
  leads_is _ = refl

  -- the array of which it is an element
  record IsElementOf (ground : Ground) (g : ℕ) : Type 0 where
    count : ground.count ≡ cells_in_each r (global_at r g)
    elements : ground.elements ≡ global_elements (global_at r g)

  module _ (arrays : (a : Expression) → is_array (kind_at r a) ≡ true → IsExpression c.program a → IsArrayOf c.program a) where
    element_of : (own : Option ℕ) (e : Expression) → AllByRecursion (IsExpression c.program) (expressions e) → (g j : ℕ) → target r own e ≡ in_global_at g j → IsElementOf (ground_of z f y c e) g
    element_of own (identifier s i) all g j is = absurd (name_array (named_at r i.site.token) (own_field own 0) g j is)
    element_of own (parentheses s a) all g j is = let w = element_of own a all.1 g j is in record { count = w.count; elements = w.elements }
    element_of own (index s a i) all g j is = by (is_array (kind_at r a)) refl is
      where
        by : (b : Bool) → is_array (kind_at r a) ≡ b → cond b (in_global_at (global_of (target r None a)) (own_field own 0)) (in_object_at (own_field own 0)) ≡ in_global_at g j → IsElementOf (ground_of z f y c (index s a i)) g
        by true array same =
            let w = arrays a array (self (IsExpression c.program) a (front (IsExpression c.program) (expressions a) (expressions i) all.1)) in
            let number : w.number ≡ g = ap global_of (sym w.place) ∙ same_global (global_of (target r None a)) (own_field own 0) g j same in
            record {
              count = ap (element_cells r) w.element ∙ sym (ap (cells_in_each r) w.defined) ∙ ap (λ k. cells_in_each r (global_at r k)) number;
              elements = ap (λ k. global_elements (global_at r k)) (same_global (global_of (target r None a)) (own_field own 0) g j same);
            }
        by false array same = absurd (cc)
    element_of own (field s a Dot n) all g j is = let w = element_of (Some (own_field own (field_place_named r (named_at r n.site.token)))) a all.1 g j is in record { count = w.count; elements = w.elements }
    element_of own (field s a Arrow n) all g j is = absurd (cc)
    element_of own (unary s Dereference a) all g j is = absurd (cc)
    element_of own _ all g j is = absurd (cc)

pub grounds_fit : LvaluesFit → ArraysFit → GroundsFit
grounds_fit fit arrays c code is z f y entries e lvalue all =
    let known : (a : Expression) → is_array (kind_at c.program.typed a) ≡ true → IsExpression c.program a → IsArrayOf c.program a = λ a array at. arrays c.program is.accepted.resolved is.accepted.placed is.accepted.low is.accepted.least is.accepted.well a at array in
    record {
      base = λ has. base_is z f y c entries None e (λ p leads. has_pointer_modes c code e lvalue (lvalue_cells fit c code is e lvalue) p leads) has;
      pointer = λ _. leads_is z f y c entries e;
      count = λ g n at. (element_of z f y c entries known None e all g n at).count;
      elements = λ g n at. (element_of z f y c entries known None e all g n at).elements;
    }
