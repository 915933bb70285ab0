-- What the types of C11 are to flat code: integers, references, and what goes to what.
use Rattle.sharc_flat_laws.proofs.Imports.{◌≡◌, inl, inr, ◌+◌, ◌-◌, Bool, true, false, cond, eqb-true, false≢true, and_parts, one_less, object, same_kind, agrees, ◌&&◌, ◌||◌, refl, ap, sym, ◌∙◌, subst, arith, lt-ltb, true≢false, Mutex, WrittenType, is_aggregate, Kind, null, is_integer, is_pointer, is_null, is_integral, is_struct_base, same_base, declared_kind, is_reference, IsInteger, IsPointer, IsScalar, Comparable, integers, pointers, pointer_and_null, null_and_pointer, Assignable, integer, pointer, null_pointer, IsHeld, Goes, Passes, SameSort, or_false, and_false, some_star}
use Rattle.sharc_flat.specs.Suits as suits

pub integer_yes : (k : Kind) → IsInteger k → is_integer k ≡ true
integer_yes k (b, t, is) = ap is_integer is ∙ t

integer_is : (k : Kind) → is_integer k ≡ true → IsInteger k
integer_is (object b n) h = let p = and_parts _ _ h in (b, p.1, ap (object b) (eqb-true n 0 p.0))
integer_is _ h = absurd (false≢true h)

pub integer_pointer : (k : Kind) → IsInteger k → is_pointer k ≡ false
integer_pointer k (b, t, is) = ap is_pointer is

pub integer_reference : (k : Kind) → IsInteger k → is_reference k ≡ false
integer_reference k (b, t, is) = ap is_reference is

pub pointer_pointer : (k : Kind) → IsPointer k → is_pointer k ≡ true
pointer_pointer k (b, n, is) = ap is_pointer is ∙ lt-ltb 0 (n + 1) (omega arith)

pointer_is : (k : Kind) → is_pointer k ≡ true → IsPointer k
pointer_is (object b n) h = (b, n - 1, ap (object b) (one_less n h))
pointer_is _ h = absurd (false≢true h)

pub pointer_reference : (k : Kind) → IsPointer k → is_reference k ≡ true
pointer_reference k p = ap (λ b. b || is_null k) (pointer_pointer k p)

pub pointer_integer : (k : Kind) → IsPointer k → is_integer k ≡ false
pointer_integer k (b, n, is) = ap is_integer is ∙ ap (λ z. z && is_integral b) (some_star n)

pub scalar : (k : Kind) → IsScalar k → suits.IsScalar k
scalar k (inl i) = λ h. integer_yes k i
scalar k (inr (inl p)) = λ h. absurd (true≢false (sym (pointer_reference k p) ∙ h))
scalar k (inr (inr z)) = λ h. absurd (true≢false (ap is_reference (sym z) ∙ h))

pub goes : (want k : Kind) → Assignable want k → Goes want k
goes _ _ (integer {a = a} {b = b} i j) = (integer_reference b j ∙ sym (integer_reference a i), λ h. integer_yes b j, λ h. integer_yes b j)
goes _ _ (pointer {a = a} p) = (refl, λ h. absurd (true≢false (sym (pointer_reference a p) ∙ h)), λ h. h)
goes _ _ (null_pointer {a = a} p) = (sym (pointer_reference a p), λ h. absurd (true≢false (sym (pointer_reference a p) ∙ h)), λ h. absurd (true≢false (sym h ∙ pointer_integer a p)))

-- what is of the kind of a pointer is a pointer
pub pointer_wanted : (want k : Kind) → IsPointer k → same_kind want k ≡ true → IsPointer want
pointer_wanted want k p h = pointer_is want (by want k (pointer_pointer k p) h)
  where
    by : (want k : Kind) → is_pointer k ≡ true → same_kind want k ≡ true → is_pointer want ≡ true
    by (object a m) (object b n) p h = ap (λ k. is_pointer (object a k)) (eqb-true m n (and_parts _ _ h).1) ∙ p
    by _ _ p h = absurd (false≢true h)

pub goes_to : (want k : Kind) → IsScalar k → agrees want k ≡ true → Goes want k
goes_to want k s h = by s
  where
    agreed : (n i : Bool) → is_null k ≡ n → is_integer k ≡ i → cond n (is_pointer want) (cond i (is_integer want) (same_kind want k)) ≡ true
    agreed n i z e = sym (ap (λ n. cond n (is_pointer want) (cond (is_integer k) (is_integer want) (same_kind want k))) z ∙ ap (λ i. cond n (is_pointer want) (cond i (is_integer want) (same_kind want k))) e) ∙ h

    by : IsScalar k → Goes want k
    by (inl i) = goes want k (integer (integer_is want (agreed false true (ap is_null i.2) (integer_yes k i))) i)
    by (inr (inl p)) =
        let q = pointer_reference want (pointer_wanted want k p (agreed false false (ap is_null p.2) (pointer_integer k p))) in
        let not_integer = pointer_integer want (pointer_wanted want k p (agreed false false (ap is_null p.2) (pointer_integer k p))) in
        (pointer_reference k p ∙ sym q, λ e. absurd (true≢false (sym q ∙ e)), λ e. absurd (true≢false (sym e ∙ not_integer)))
    by (inr (inr z)) = subst (Goes want) (sym z) (goes want null (null_pointer (pointer_is want (agreed true (is_integer k) (ap is_null z) refl))))

pub passes : (want k : Kind) → Assignable want k → Passes want k
passes _ _ (integer {a = a} {b = b} i j) = (integer_reference b j ∙ sym (integer_pointer a i), λ h. integer_yes b j, λ h. integer_yes b j)
passes _ _ (pointer {a = a} p) = (pointer_reference a p ∙ sym (pointer_pointer a p), λ h. absurd (true≢false (sym (pointer_pointer a p) ∙ h)), λ h. h)
passes _ _ (null_pointer {a = a} p) = (sym (pointer_pointer a p), λ h. absurd (true≢false (sym (pointer_pointer a p) ∙ h)), λ h. absurd (true≢false (sym h ∙ pointer_integer a p)))

pub given : (want k : Kind) → Assignable want k → suits.IsScalar k
given _ _ (integer {a = a} {b = b} i j) = scalar b (inl j)
given _ _ (pointer {a = a} p) = scalar a (inr (inl p))
given _ _ (null_pointer {a = a} p) = scalar null (inr (inr refl))

pub same_sort : (j k : Kind) → Comparable j k → SameSort j k
same_sort _ _ (integers {a = a} {b = b} i j) = subst (λ z. suits.Either z (is_reference b ≡ true) ((is_integer a ≡ true) × (is_integer b ≡ true))) (sym (integer_reference a i)) (integer_yes a i, integer_yes b j)
same_sort _ _ (pointers {a = a} p) = subst (λ z. suits.Either z (is_reference a ≡ true) ((is_integer a ≡ true) × (is_integer a ≡ true))) (sym (pointer_reference a p)) (pointer_reference a p)
same_sort _ _ (pointer_and_null {a = a} p) = subst (λ z. suits.Either z (is_reference null ≡ true) ((is_integer a ≡ true) × (is_integer null ≡ true))) (sym (pointer_reference a p)) refl
same_sort _ _ (null_and_pointer {b = b} p) = pointer_reference b p

pub declared_reference : (w : WrittenType) → is_reference (declared_kind w) ≡ is_pointer (declared_kind w)
declared_reference w = or_false (is_pointer (declared_kind w))

pub held_same : (k : Kind) → IsHeld k → is_pointer k ≡ is_reference k
held_same k (inl i) = integer_pointer k i ∙ sym (integer_reference k i)
held_same k (inr p) = pointer_pointer k p ∙ sym (pointer_reference k p)

pub pointer_plain : (k : Kind) → IsPointer k → is_aggregate k ≡ false
pointer_plain k (b, n, is) = ap is_aggregate is ∙ ap (λ z. (z && is_struct_base b) || (same_base b Mutex && z)) (some_star n) ∙ and_false (same_base b Mutex)
