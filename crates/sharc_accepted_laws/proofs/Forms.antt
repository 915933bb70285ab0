-- What the types of C11 say of the parts of an expression.
use Rattle.sharc_accepted_laws.proofs.Imports.{◌≡◌, ℕ, zero, suc, ◌+◌, ◌==◌, ◌||◌, ◌&&◌, Bool, true, false, List, [], ◌∷◌, refl, ap, sym, ◌∙◌, arith, lt-ltb, eqb-true, Some, false≢true, and_parts, or_left, Base, Span, Identifier, WrittenType, Arrow, Unlock, Free, Dereference, GlobalForm, is_lvalue, Expression, call, spawn, on_place, cast, index, field, unary, Arguments, no_arguments, argument, Function, Named, Kind, object, array, void, mutex, is_integral, is_integer, is_pointer, is_null, is_array, declared_kind, declared_kinds, global_kind, Resolution, named_at, function_at, kind_at, HasType, HaveTypes, Callee, of_program, of_conditions, IsInteger, Assignable, integer, pointer, null_pointer, a_global, in_parentheses, element_of_pointer, element_of_array, a_call, a_field_behind, pointed_to, unlocked, a_cast, is_reference, IsScalar, same_some}
use Rattle.sharc_tree.specs.declared.tree.expression.PlaceCall.TheVariants.{Lock}
use Rattle.sharc_ctype_laws.specs.Constraints.{IsPointer, spawned, locked, freed}
use Rattle.sharc_flat.specs.Suits.{Passes}

-- ---- kinds
pub left_or : (a b : Bool) → b ≡ false → (a || b) ≡ true → a ≡ true
left_or true b h t = refl
left_or false b h t = absurd (false≢true (sym h ∙ t))

some_star : (n : ℕ) → is_pointer (object Base.Int (n + 1)) ≡ true
some_star n = lt-ltb 0 (n + 1) (omega arith)

no_star : (n : ℕ) → (suc n == 0) ≡ true → ⊥
no_star n h = let e = eqb-true (suc n) 0 h in omega (arith, e)

-- a reference that is no NULL is a pointer
pub reference_pointer : (k : Kind) → is_null k ≡ false → is_reference k ≡ true → is_pointer k ≡ true
reference_pointer k some ref = left_or (is_pointer k) (is_null k) some ref

pub pointer_reference : (k : Kind) → is_pointer k ≡ true → is_reference k ≡ true
pointer_reference k h = or_left (is_pointer k) (is_null k) h

-- and no integer
pub pointer_no_integer : (k : Kind) → is_pointer k ≡ true → is_integer k ≡ false
pointer_no_integer (object b zero) h = absurd (false≢true h)
pointer_no_integer (object b (suc n)) h = by (suc n == 0) refl
  where
    by : (z : Bool) → (suc n == 0) ≡ z → (z && is_integral b) ≡ false
    by true same = absurd (no_star n same)
    by false same = refl
pointer_no_integer _ h = refl

-- an integer is no reference, and a value
pub integer_no_reference : (k : Kind) → is_integer k ≡ true → is_reference k ≡ false
integer_no_reference (object b zero) h = refl
integer_no_reference (object b (suc n)) h = absurd (no_star n (and_parts (suc n == 0) (is_integral b) h).0)
integer_no_reference _ h = absurd (false≢true h)

pub integer_scalar : (k : Kind) → is_integer k ≡ true → IsScalar k
integer_scalar k h other = h

pub reference_scalar : (k : Kind) → is_reference k ≡ true → IsScalar k
reference_scalar k h other = absurd (false≢true (sym other ∙ h))

-- what goes to something that is no reference goes to an integer
pub to_integer : (want k : Kind) → Assignable want k → is_reference k ≡ false → is_integer want ≡ true
to_integer _ _ (integer {a = a} (b, t, is) j) other = ap is_integer is ∙ t
to_integer _ _ (pointer {a = a} (b, n, is)) other = absurd (false≢true (sym other ∙ pointer_reference a (ap is_pointer is ∙ some_star n)))
to_integer _ _ (null_pointer p) other = absurd (false≢true (sym other))

integer_kind : (k : Kind) → IsInteger k → is_integer k ≡ true
integer_kind k (b, t, is) = ap is_integer is ∙ t

integer_no_pointer : (k : Kind) → IsInteger k → is_pointer k ≡ false
integer_no_pointer k (b, t, is) = ap is_pointer is

pub starred : (k : Kind) → IsPointer k → is_pointer k ≡ true
starred k (b, n, is) = ap is_pointer is ∙ some_star n

-- what goes to something is passed to it
pub passes_of : (want k : Kind) → Assignable want k → Passes want k
passes_of _ _ (integer {a = a} {b = b} i j) = (integer_no_reference b (integer_kind b j) ∙ sym (integer_no_pointer a i), λ no. integer_kind b j, λ yes. integer_kind b j)
passes_of _ _ (pointer {a = a} p) = (pointer_reference a (starred a p) ∙ sym (starred a p), λ no. absurd (false≢true (sym no ∙ starred a p)), λ h. h)
passes_of _ _ (null_pointer {a = a} p) = (sym (starred a p), λ no. absurd (false≢true (sym no ∙ starred a p)), λ yes. absurd (false≢true (sym (pointer_no_integer a (starred a p)) ∙ yes)))

pub global_null : (f : GlobalForm) (b : Base) (n : ℕ) → is_null (global_kind f (object b n)) ≡ false
global_null (GlobalForm.Array at count) b n = refl
global_null _ b n = refl

module _ (r : Resolution) where
  -- no lvalue is NULL
  pub lvalue_some : (e : Expression) (k : Kind) → HasType r e k → is_lvalue e ≡ true → is_null k ≡ false
  lvalue_some _ _ (a_global {g = g} is at spelled) h = global_null g.form _ _
  lvalue_some _ _ (in_parentheses {a = a} {k = k} t) h = lvalue_some a k t h
  lvalue_some _ _ _ h = cc

  module _ (one : (e : Expression) (k : Kind) → HasType r e k → kind_at r e ≡ k) where
    -- what is indexed and is no array, and what is led through by `->` and `*`, is a pointer
    pub index_pointer : (s : Span) (a i : Expression) (k : Kind) → HasType r (index s a i) k → is_array (kind_at r a) ≡ false → is_pointer (kind_at r a) ≡ true
    index_pointer s a i _ (element_of_pointer {b = b} {n = n} t u v) other = ap is_pointer (one a (object b (n + 1)) t) ∙ some_star n
    index_pointer s a i _ (element_of_array {b = b} {n = n} t u v) other = absurd (false≢true (sym other ∙ ap is_array (one a (array b n) t)))

    pub arrow_pointer : (s : Span) (a : Expression) (n : Identifier) (k : Kind) → HasType r (field s a Arrow n) k → is_pointer (kind_at r a) ≡ true
    arrow_pointer s a n _ (a_field_behind {x = x} t m is) = ap is_pointer (one a (object (Base.Struct x) 1) t)

    pub star_pointer : (s : Span) (a : Expression) (k : Kind) → HasType r (unary s Dereference a) k → is_pointer (kind_at r a) ≡ true
    star_pointer s a _ (pointed_to {b = b} {n = n} t) = ap is_pointer (one a (object b (n + 1)) t) ∙ some_star n

    -- what is cast, freed and locked
    pub cast_operand : (s : Span) (t : WrittenType) (a : Expression) (k : Kind) → HasType r (cast s t a) k → (is_lvalue a ≡ true) × (is_pointer (kind_at r a) ≡ true)
    cast_operand s t a _ (a_cast lvalue has (b, n, is)) = (lvalue, ap is_pointer (one a (declared_kind t) has ∙ is) ∙ some_star n)

    pub free_operand : (s : Span) (a : Expression) (k : Kind) → HasType r (on_place s Free a) k → (is_lvalue a ≡ true) × (is_pointer (kind_at r a) ≡ true)
    free_operand s a _ (freed {k = k} lvalue has (b, n, is)) = (lvalue, ap is_pointer (one a k has ∙ is) ∙ some_star n)

    pub lock_operand : (s : Span) (a : Expression) (k : Kind) → HasType r (on_place s Lock a) k → (is_lvalue a ≡ true) × (kind_at r a ≡ mutex)
    lock_operand s a _ (locked lvalue has) = (lvalue, one a mutex has)

    pub unlock_operand : (s : Span) (a : Expression) (k : Kind) → HasType r (on_place s Unlock a) k → (is_lvalue a ≡ true) × (kind_at r a ≡ mutex)
    unlock_operand s a _ (unlocked lvalue has) = (lvalue, one a mutex has)

  -- ---- calls
  pub call_typed : (s : Span) (i : Identifier) (all : Arguments) (k : Kind) → HasType r (call s i all) k → (ps : List Kind) × (res : Kind) × Callee r i ps res × HaveTypes r all ps
  call_typed s i all _ (a_call {parameters = ps} {result = res} q h) = (ps, res, q, h)

  pub spawn_typed : (s : Span) (i : Identifier) (a : Expression) (k : Kind) → HasType r (spawn s i a) k → (p : Kind) × Callee r i (p ∷ []) void × HaveTypes r (argument a no_arguments) (p ∷ [])
  spawn_typed s i a _ (spawned {parameter = p} q h) = (p, q, h)

  same_function : (n k : ℕ) → Named.Function n ≡ Named.Function k → n ≡ k
  same_function n k h = cc

  pub function_parameters : (i : Identifier) (ps : List Kind) (res : Kind) (k : ℕ) (g : Function) → Callee r i ps res → named_at r i.site.token ≡ Named.Function k → function_at r k ≡ Some g → ps ≡ declared_kinds g.parameters
  function_parameters i _ _ k g (of_program {n = n} f names at spelled other) is there =
      ap (λ (h : Function). declared_kinds h.parameters) (same_some f g (sym at ∙ ap (function_at r) (same_function n k (sym names ∙ is)) ∙ there))
  function_parameters i _ _ k g (of_conditions c names spelled) is there = absurd (cc (sym names ∙ is))
