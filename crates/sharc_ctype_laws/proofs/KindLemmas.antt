-- Kinds: which are integers, pointers and scalars, and which agree.
use Rattle.sharc_ctype_laws.proofs.Imports.{◌≡◌, inl, inr, ◌+◌, ◌-◌, Bool, true, false, ◌&&◌, ◌||◌, cond, refl, ap, ap₂, sym, ◌∙◌, subst, eqb-true, ⊎_elim, false≢true, and_parts, or_cases, bytes_eq-Decides, Base, Int, Char, Long, Mutex, Void, Struct, Value, Kind, object, null, int, long, is_integer, is_pointer, is_null, is_long, same_base, same_kind, agrees, comparable, promoted, common, fits, IsInteger, IsPointer, IsScalar, Common, both_shorter, left_long, right_long, Comparable, integers, pointers, pointer_and_null, null_and_pointer, Assignable, integer, pointer, null_pointer, one_less}

-- tests that decide equality

pub one_base : (a b : Base) → same_base a b ≡ true → a ≡ b
one_base Int Int h = refl
one_base Char Char h = refl
one_base Long Long h = refl
one_base Mutex Mutex h = refl
one_base Void Void h = refl
one_base (Struct a) (Struct b) h = ap Struct ((bytes_eq-Decides a b).0 h)
one_base _ _ h = absurd (false≢true h)

pub one_kind : (j k : Kind) → same_kind j k ≡ true → j ≡ k
one_kind (object a m) (object b n) h = let p = and_parts _ _ h in ap₂ object (one_base a b p.0) (eqb-true m n p.1)
one_kind _ _ h = absurd (false≢true h)

pub null_is : (k : Kind) → is_null k ≡ true → k ≡ null
null_is null h = refl
null_is _ h = absurd (false≢true h)

-- what the tests say

pub integer_is : (k : Kind) → is_integer k ≡ true → IsInteger k
integer_is (object b n) h = let p = and_parts _ _ h in (b, p.1, ap (object b) (eqb-true n 0 p.0))
integer_is _ h = absurd (false≢true h)

pub pointer_is : (k : Kind) → is_pointer k ≡ true → IsPointer k
pointer_is (object b n) h = (b, n - 1, ap (object b) (one_less n h))
pointer_is _ h = absurd (false≢true h)

pub scalar_is : (k : Kind) → fits Value k ≡ true → IsScalar k
scalar_is k h = ⊎_elim (λ rest. ⊎_elim (λ i. inl (integer_is k i)) (λ p. inr (inl (pointer_is k p))) (or_cases (is_integer k) (is_pointer k) rest)) (λ n. inr (inr (null_is k n))) (or_cases (is_integer k || is_pointer k) (is_null k) h)

-- the type in which two integers meet

not_long : (k : Kind) → is_long k ≡ false → k ≡ long → ⊥
not_long k h is = false≢true (sym h ∙ ap is_long is)

long_is : (k : Kind) → IsInteger k → is_long k ≡ true → k ≡ long
long_is k (Int, t, is) h = absurd (false≢true (ap is_long (sym is) ∙ h))
long_is k (Char, t, is) h = absurd (false≢true (ap is_long (sym is) ∙ h))
long_is k (Long, t, is) h = is
long_is k (Mutex, t, is) h = absurd (false≢true t)
long_is k (Void, t, is) h = absurd (false≢true t)
long_is k (Struct x, t, is) h = absurd (false≢true t)

common_by : (j k : Kind) (l m : Bool) → is_long j ≡ l → is_long k ≡ m → IsInteger j → IsInteger k → Common j k (cond (l || m) long int)
common_by j k true m lj lk ij ik = subst (λ x. Common x k long) (sym (long_is j ij lj)) left_long
common_by j k false true lj lk ij ik = subst (λ x. Common j x long) (sym (long_is k ik lk)) right_long
common_by j k false false lj lk ij ik = both_shorter (not_long j lj) (not_long k lk)

pub common_is : (j k : Kind) → IsInteger j → IsInteger k → Common j k (common j k)
common_is j k ij ik = common_by j k (is_long j) (is_long k) refl refl ij ik

promoted_by : (k : Kind) (l : Bool) → is_long k ≡ l → IsInteger k → Common k int (cond l long int)
promoted_by k true l i = subst (λ x. Common x int long) (sym (long_is k i l)) left_long
promoted_by k false l i = both_shorter (not_long k l) (λ e. false≢true (ap is_long e))

pub promoted_is : (k : Kind) → IsInteger k → Common k int (promoted k)
promoted_is k i = promoted_by k (is_long k) refl i

-- what `==` compares

same_scalars : (k : Kind) → IsScalar k → (k ≡ null → ⊥) → Comparable k k
same_scalars k (inl i) n = integers i i
same_scalars k (inr (inl p)) n = pointers p
same_scalars k (inr (inr z)) n = absurd (n z)

not_null : (k : Kind) → is_null k ≡ false → k ≡ null → ⊥
not_null k h is = false≢true (sym h ∙ ap is_null is)

compared_by : (j k : Kind) (m n i : Bool) → is_null j ≡ m → is_null k ≡ n → (is_integer j && is_integer k) ≡ i → IsScalar j → IsScalar k
    → (cond (m || n) (is_pointer j || is_pointer k) (cond i true (same_kind j k))) ≡ true → Comparable j k
compared_by j k false false true zj zk ints sj sk h = let p = and_parts (is_integer j) (is_integer k) ints in integers (integer_is j p.0) (integer_is k p.1)
compared_by j k false false false zj zk ints sj sk h = subst (λ x. Comparable j x) (one_kind j k h) (same_scalars j sj (not_null j zj))
compared_by j k true n i zj zk ints sj sk h =
    let is = null_is j zj in
    let p : is_pointer k ≡ true = ap (λ x. is_pointer x || is_pointer k) (sym is) ∙ h in
    subst (λ x. Comparable x k) (sym is) (null_and_pointer (pointer_is k p))
compared_by j k false true i zj zk ints sj sk h =
    let is = null_is k zk in
    ⊎_elim (λ p. subst (λ x. Comparable j x) (sym is) (pointer_and_null (pointer_is j p))) (λ p. absurd (false≢true (ap is_pointer (sym is) ∙ p))) (or_cases (is_pointer j) (is_pointer k) h)

pub comparable_is : (j k : Kind) → fits Value j ≡ true → fits Value k ≡ true → comparable j k ≡ true → Comparable j k
comparable_is j k fj fk h = compared_by j k (is_null j) (is_null k) (is_integer j && is_integer k) refl refl refl (scalar_is j fj) (scalar_is k fk) h

-- what may be assigned

same_assigned : (k : Kind) → IsScalar k → (k ≡ null → ⊥) → Assignable k k
same_assigned k (inl i) n = integer i i
same_assigned k (inr (inl p)) n = pointer p
same_assigned k (inr (inr z)) n = absurd (n z)

assigned_by : (want k : Kind) (n i : Bool) → is_null k ≡ n → is_integer k ≡ i → IsScalar k → (cond n (is_pointer want) (cond i (is_integer want) (same_kind want k))) ≡ true → Assignable want k
assigned_by want k true i zk ik s h = subst (Assignable want) (sym (null_is k zk)) (null_pointer (pointer_is want h))
assigned_by want k false true zk ik s h = integer (integer_is want h) (integer_is k ik)
assigned_by want k false false zk ik s h = subst (λ x. Assignable x k) (sym (one_kind want k h)) (same_assigned k s (not_null k zk))

pub assignable_is : (want k : Kind) → fits Value k ≡ true → agrees want k ≡ true → Assignable want k
assignable_is want k f h = assigned_by want k (is_null k) (is_integer k) refl refl (scalar_is k f) h
