-- Values, pointers, variables, constants and operators.
use Rattle.sharc_accepted_laws.proofs.{Imports.{◌≡◌, inl, inr, ℕ, zero, suc, ◌+◌, ◌<◌, ◌==◌, eqb-true, ◌||◌, Bool, true, false, cond, List, refl, ap, sym, ◌∙◌, subst, arith, option_map, Option, Some, None, false≢true, and_parts, or_right, or_left, AllByRecursion, Base, Site, Span, Identifier, BinaryOperator, LogicalOr, LogicalAnd, Equal, NotEqual, Less, Greater, LessOrEqual, GreaterOrEqual, ShiftLeft, ShiftRight, Constant, UnaryOperator, Negate, Not, Complement, Dereference, NumberType, in_function, Expression, Named, Kind, object, array, null, is_integral, is_integer, is_pointer, is_null, is_long, int, long, promoted, Int, holds, Shift, Arithmetic, number_kind, constant_kind, class_of, binary_result, Resolution, named_at, named_kind, declaration_at, variable_kind, functions_in, kind_at, constant_value, is_reference, is_shift, is_comparison, StaticType, Refers, Narrower, a_constant, in_parentheses, element_of_pointer, element_of_array, pointed_to, HasType as IsOfType, MeetsConstraints, Assignment, Targets, written, deeper, behind, declared_row, named_row, row_at, modes_of, modes_at, Sharing, IsExpression, kind_of, is_ref, operator_of, base_as_width, width_of, Context, slot_kind, ref_count, register_of, number_in, IsScalar, Either, SameSort, OperandsSuit, IfThere, IsWide, no_type, Setting, type_by, GoesTo, IsTypeIn, IsNumber, IsPointer, VariableTyped, ConstantTyped, UnaryTyped, IntegersTyped, ComparedTyped, BinaryTyped, HeldLaws, IsAccepted, ScopeLaws, AllStand, register, static_of, variable_type, variable_entry, entry_by, entry_of, IsAt, OperandSuits, ValueLaws, width_named, typing, of_each}, TypableRegisters.{reference_found, integer_found}, Members.first_of, Forms.{integer_no_reference as integer_is}, Calls.narrower_same, Given.no_object, Given.no_array}
use Rattle.sharc_tree.specs.Tree as tree

number_of_long : (b : Bool) → (is_reference (cond b long int) ≡ false) × (is_integer (cond b long int) ≡ true)
number_of_long true = (refl, refl)
number_of_long false = (refl, refl)

wide_of_long : (b : Bool) → IsWide (width_of (cond b long int))
wide_of_long true = tt
wide_of_long false = tt

-- what is no long goes to either
base_widens : (b : Base) (z : Bool) → is_integral b ≡ true → (is_long (object b 0) ≡ true → z ≡ true) → Narrower (base_as_width b) (width_of (cond z long int))
base_widens Base.Int true h k = tt
base_widens Base.Long false h k = absurd (false≢true (k refl))
base_widens Base.Mutex z h k = absurd (false≢true h)
base_widens Base.Void z h k = absurd (false≢true h)
base_widens (Base.Struct name) z h k = absurd (false≢true h)
base_widens _ _ h k = tt

kind_widens : (kind : Kind) (z : Bool) → is_integer kind ≡ true → (is_long kind ≡ true → z ≡ true) → Narrower (width_of kind) (width_of (cond z long int))
kind_widens (object b zero) z h k = base_widens b z h k
kind_widens (object b (suc n)) z h k = absurd (let e = eqb-true (suc n) 0 (and_parts (suc n == 0) (is_integral b) h).0 in omega (arith, e))
kind_widens _ z h k = absurd (false≢true h)

-- a pointer is no NULL
pub pointer_no_null : (k : Kind) → is_pointer k ≡ true → k ≡ null → ⊥
pointer_no_null k h e = false≢true (sym (ap is_pointer e) ∙ h)

module _ (r : Resolution) where
  abbrev pub HasRow : Expression → Type 0
  HasRow e = (row : Targets) × (row_at r e ≡ Some row)

  element_row : (z : Bool) (o : Option Targets) (row : Targets) → o ≡ Some row → (row2 : Targets) × (cond z o (behind o) ≡ Some row2)
  element_row true o row is = (row, is)
  element_row false o row is = (deeper row, ap behind is)

  -- what has another type than NULL has a row
  pub has_row : (e : Expression) (k : Kind) → IsOfType r e k → (k ≡ null → ⊥) → HasRow e
  has_row (tree.constant s Constant.Null) _ a_constant none = absurd (none refl)
  has_row (tree.parentheses s a) k (in_parentheses t) none = has_row a k t none
  has_row (tree.index s a i) _ (element_of_pointer {b = b} {n = n} t u v) none = let x = has_row a (object b (n + 1)) t (no_object b (n + 1)) in element_row _ (row_at r a) x.0 x.1
  has_row (tree.index s a i) _ (element_of_array {b = b} {n = n} t u v) none = let x = has_row a (array b n) t (no_array b n) in element_row _ (row_at r a) x.0 x.1
  has_row (tree.unary s Dereference a) _ (pointed_to {b = b} {n = n} t) none = let x = has_row a (object b (n + 1)) t (no_object b (n + 1)) in (deeper x.0, ap behind x.1)
  has_row _ k t none = (_, refl)

module _ (constraints : MeetsConstraints) (held : HeldLaws) (scopes : ScopeLaws) where
  pub typed_at : (m : Assignment) → IsAccepted m → (e : Expression) → IsExpression m e → IsOfType m.typed e (kind_at m.typed e)
  typed_at m a e x =
      of_each (λ e. IsOfType m.typed e (kind_at m.typed e)) (in_function x.owner) e
      (of_each (λ f. AllByRecursion (λ e. IsOfType m.typed e (kind_at m.typed e)) (in_function f)) (functions_in m.typed.program.items) x.owner (constraints m.typed a.resolved a.placed a.low) x.stands) x.inside

  module _ (z : Setting) (f : ℕ) (c : Context) where
    -- the type of modes that stand
    module _ (a : IsAccepted c.program) (e : Expression) (at : IsAt c e) where
      pub type_in : (modes : List Sharing) → modes_at c.program e ≡ Some modes → IsTypeIn z f typing c (static_of c (kind_of c e) modes)
      type_in modes is p mentions = held.types c (kind_of c e) modes p (held.expressions c.program a e modes at.inside is) (subst (IfThere (AllStand c.program c.scope)) is at.stands) mentions

      value_is : (o : Option (List Sharing)) → modes_at c.program e ≡ o → (s : StaticType) × GoesTo (entry_of c e) s × IsTypeIn z f typing c s
      value_is None is = (no_type, inl (ap (entry_by c (kind_of c e)) is), λ p mentions. absurd mentions)
      value_is (Some modes) is = (static_of c (kind_of c e) modes, inr (ap (entry_by c (kind_of c e)) is), type_in modes is)

      pub pointer_is : is_pointer (kind_of c e) ≡ true → IsPointer z f typing c e
      pointer_is pointer =
          let row = has_row c.program.typed e (kind_of c e) (typed_at c.program a e (first_of (IsExpression c.program) e at.inside)) (pointer_no_null (kind_of c e) pointer) in
          let modes = modes_of c.program row.0 in
          let is : modes_at c.program e ≡ Some modes = ap (option_map (modes_of c.program)) row.1 in
          let entry : entry_of c e ≡ Refers (static_of c (kind_of c e) modes) = ap (entry_by c (kind_of c e)) is in
          (or_left (is_pointer (kind_of c e)) (is_null (kind_of c e)) pointer, entry ∙ sym (ap (λ y. Refers (type_by y)) entry), subst (λ y. IsTypeIn z f typing c (type_by y)) (sym entry) (type_in modes is))

    number_is : (e : Expression) → is_integer (kind_of c e) ≡ true → IsNumber z f typing c e
    number_is e h = (integer_is (kind_of c e) h, h)

    -- ---- variables
    variable_is : IsAccepted c.program → (s : Span) (i : Identifier) (x : ℕ) → IsAt c (tree.identifier s i) → named_at c.program.typed i.site.token ≡ Named.Variable x
        → slot_kind c.scope x ≡ Some (is_ref c (tree.identifier s i)) → IsScalar (kind_of c (tree.identifier s i)) → VariableTyped z f typing c (tree.identifier s i) (register_of c.scope x)
    variable_is a s i x at names slot scalar = by (is_ref c e) refl slot
      where
        e : Expression
        e = tree.identifier s i

        kind_is : kind_of c (tree.identifier s i) ≡ variable_kind (declaration_at c.program.typed x)
        kind_is = ap (named_kind c.program.typed) names

        modes_are : modes_at c.program (tree.identifier s i) ≡ Some (modes_of c.program (declared_row c.program.typed written x))
        modes_are = ap (λ n. Some (modes_of c.program (named_row c.program.typed written n))) names

        entry_is : entry_of c (tree.identifier s i) ≡ Refers (variable_type c x)
        entry_is = ap (entry_by c (kind_of c (tree.identifier s i))) modes_are ∙ ap (λ k. Refers (static_of c k (modes_of c.program (declared_row c.program.typed written x)))) kind_is

        by : (b : Bool) → is_ref c (tree.identifier s i) ≡ b → slot_kind c.scope x ≡ Some b → VariableTyped z f typing c (tree.identifier s i) (register_of c.scope x)
        by true ref slot =
            let q = reference_found 0 0 c.scope x slot in
            let h = scopes.has c x slot in
            let same : register c x ≡ q.0 = ap number_in q.1 in
            let pointer : variable_entry c q.0 ≡ Refers (variable_type c x) = subst (λ n. variable_entry c n ≡ Refers (variable_type c x)) same h.2 in
            let type : type_by (variable_entry c q.0) ≡ variable_type c x = ap type_by pointer in
            let fits : IsTypeIn z f typing c (variable_type c x) =
            subst (λ k. IsTypeIn z f typing c (static_of c k (modes_of c.program (declared_row c.program.typed written x)))) kind_is (type_in a (tree.identifier s i) at (modes_of c.program (declared_row c.program.typed written x)) modes_are) in
            subst (VariableTyped z f typing c (tree.identifier s i)) (sym q.1)
            (ref, subst (λ n. n < ref_count c.scope) same h.0, entry_is ∙ ap Refers (sym type), subst (IsTypeIn z f typing c) (sym type) fits)
        by false ref slot =
            let n = integer_found 0 0 c.scope x slot in
            let zero_more : 0 + n.at ≡ n.at = omega arith in
            subst (VariableTyped z f typing c (tree.identifier s i)) (sym (n.is ∙ ap Int zero_more))
            ((ref, scalar ref), n.low, ap (width_named c) n.token ∙ ap width_of (sym kind_is))

    -- ---- operators
    promoted_number : (e : Expression) (k : Kind) → kind_of c e ≡ promoted k → IsNumber z f typing c e
    promoted_number e k is = let n = number_of_long (is_long k) in (ap is_reference is ∙ n.0, ap is_integer is ∙ n.1)

    unary_is : IsAccepted c.program → (s : Span) (o : UnaryOperator) (x : Expression) → IsAt c x → OperandSuits o (kind_of c x) → UnaryTyped z f typing c (tree.unary s o x) o x
    unary_is a s Negate x at h = (number_is x h, promoted_number (tree.unary s Negate x) (kind_of c x) refl, wide_of_long (is_long (kind_of c x)), narrower_same (width_of (promoted (kind_of c x))))
    unary_is a s Not x at h = (refl, refl)
    unary_is a s Complement x at h = (number_is x h, promoted_number (tree.unary s Complement x) (kind_of c x) refl, kind_widens (kind_of c x) (is_long (kind_of c x)) h (λ long. long))
    unary_is a s Dereference x at h = pointer_is a x at h

    module _ (s : Span) (site : Site) (x y : Expression) where
      abbrev kx : Kind
      kx = kind_of c x

      abbrev ky : Kind
      ky = kind_of c y

      abbrev Both : BinaryOperator → Type 0
      Both o = IntegersTyped z f typing c (tree.binary s o site x y) o x y

      -- with a value of type int
      compares : (o : BinaryOperator) → binary_result (class_of o) kx ky ≡ int → is_comparison (operator_of o) ≡ true → is_integer kx ≡ true → is_integer ky ≡ true → Both o
      compares o is so hx hy = record {
        left = number_is x hx;
        right = number_is y hy;
        wide = subst (λ k. IsWide (width_of k)) (sym is) tt;
        first = λ no. absurd (false≢true (sym no ∙ so));
        second = λ _ no. absurd (false≢true (sym no ∙ so));
        result = narrower_same (width_of (binary_result (class_of o) kx ky));
      }

      -- with one of the type of the first operand
      shifts : (o : BinaryOperator) → class_of o ≡ Shift → is_shift (operator_of o) ≡ true → is_integer kx ≡ true → is_integer ky ≡ true → Both o
      shifts o is so hx hy = record {
        left = number_is x hx;
        right = number_is y hy;
        wide = subst (λ k. IsWide (width_of (binary_result k kx ky))) (sym is) (wide_of_long (is_long kx));
        first = λ _. subst (λ k. Narrower (width_of kx) (width_of (binary_result k kx ky))) (sym is) (kind_widens kx (is_long kx) hx (λ long. long));
        second = λ no _. absurd (false≢true (sym no ∙ so));
        result = narrower_same (width_of (binary_result (class_of o) kx ky));
      }

      -- with one of the common type
      counts : (o : BinaryOperator) → class_of o ≡ Arithmetic → is_integer kx ≡ true → is_integer ky ≡ true → Both o
      counts o is hx hy = record {
        left = number_is x hx;
        right = number_is y hy;
        wide = subst (λ k. IsWide (width_of (binary_result k kx ky))) (sym is) (wide_of_long (is_long kx || is_long ky));
        first = λ _. subst (λ k. Narrower (width_of kx) (width_of (binary_result k kx ky))) (sym is) (kind_widens kx (is_long kx || is_long ky) hx (or_left (is_long kx) (is_long ky)));
        second = λ _ _. subst (λ k. Narrower (width_of ky) (width_of (binary_result k kx ky))) (sym is) (kind_widens ky (is_long kx || is_long ky) hy (or_right (is_long kx) (is_long ky)));
        result = narrower_same (width_of (binary_result (class_of o) kx ky));
      }

      abbrev Compared : BinaryOperator → Bool → Type 0
      Compared o b = ComparedTyped z f typing c (tree.binary s o site x y) o x y b

      of_integers : (o : BinaryOperator) → is_integer kx ≡ true → Both o → Compared o (is_ref c x)
      of_integers o hx typed = subst (Compared o) (sym (integer_is kx hx)) typed

      sorted : (o : BinaryOperator) → binary_result (class_of o) kx ky ≡ int → is_comparison (operator_of o) ≡ true → SameSort kx ky → Compared o (is_ref c x)
      sorted o is so h = by (is_reference kx) h
        where
          by : (b : Bool) → Either b (is_reference ky ≡ true) ((is_integer kx ≡ true) × (is_integer ky ≡ true)) → Compared o b
          by true h = h
          by false h = compares o is so h.0 h.1

      abbrev Typed : BinaryOperator → Type 0
      Typed o = BinaryTyped z f typing c (tree.binary s o site x y) o x y

      binary_is : (o : BinaryOperator) → OperandsSuit o kx ky → Typed o
      binary_is LogicalOr h = (refl, refl)
      binary_is LogicalAnd h = (refl, refl)
      binary_is Equal h = ((refl, refl), sorted Equal refl refl h)
      binary_is NotEqual h = ((refl, refl), sorted NotEqual refl refl h)
      binary_is Less h = ((refl, refl), of_integers Less h.0 (compares Less refl refl h.0 h.1))
      binary_is Greater h = ((refl, refl), of_integers Greater h.0 (compares Greater refl refl h.0 h.1))
      binary_is LessOrEqual h = ((refl, refl), of_integers LessOrEqual h.0 (compares LessOrEqual refl refl h.0 h.1))
      binary_is GreaterOrEqual h = ((refl, refl), of_integers GreaterOrEqual h.0 (compares GreaterOrEqual refl refl h.0 h.1))
      binary_is ShiftLeft h = (number_of_long (is_long kx), of_integers ShiftLeft h.0 (shifts ShiftLeft refl refl h.0 h.1))
      binary_is ShiftRight h = (number_of_long (is_long kx), of_integers ShiftRight h.0 (shifts ShiftRight refl refl h.0 h.1))
      binary_is k h = (number_of_long (is_long kx || is_long ky), of_integers k h.0 (counts k refl h.0 h.1))

    -- ---- constants
    number_type_is : (t : NumberType) → (is_reference (number_kind t) ≡ false) × (is_integer (number_kind t) ≡ true)
    number_type_is NumberType.Int = (refl, refl)
    number_type_is NumberType.Long = (refl, refl)

    constant_is : (s : Span) (k : Constant) → (is_reference (constant_kind k) ≡ false → holds (width_of (constant_kind k)) (constant_value k) ≡ true) → ConstantTyped z f typing c (tree.constant s k) k (is_ref c (tree.constant s k))
    constant_is s (Constant.Number n) fits =
        let t = number_type_is n.number_type in
        subst (ConstantTyped z f typing c (tree.constant s (Constant.Number n)) (Constant.Number n)) (sym t.0) (t.1, fits t.0)
    constant_is s (Constant.Character byte) fits = (refl, fits refl)
    constant_is s Constant.Null fits = refl

pub value_laws : MeetsConstraints → HeldLaws → ScopeLaws → ValueLaws
value_laws constraints held scopes = record {
  values = λ z f c a e at scalar. (λ ref. value_is constraints held scopes z f c a e at (modes_at c.program e) refl, scalar);
  pointers = λ z f c a e at pointer. pointer_is constraints held scopes z f c a e at pointer;
  variables = λ z f c a s i x at names slot scalar. variable_is constraints held scopes z f c a s i x at names slot scalar;
  constants = λ z f c s k fits. constant_is constraints held scopes z f c s k fits;
  unaries = λ z f c a s o x at h. unary_is constraints held scopes z f c a s o x at h;
  binaries = λ z f c s o at x y h. binary_is constraints held scopes z f c s at x y o h;
}
