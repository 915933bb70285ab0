-- Registers and references of code beside those of guarded code.
use Rattle.sharc_compile.proofs.Imports.{◌≡◌, ℕ, ℤ, zero, suc, pos, ◌+◌, ◌*◌, ◌^◌, ◌<◌, ◌&&◌, false, List, refl, sym, ap, ◌∙◌, subst, ⊎_elim, arith, slice_index, get_or as slice_index_or, slice_set, ◌==◌, Some, nat_tests, cases_eq, length-set, get_or-set_same, get_or-set_other, nat_eq, int_le, put, reference, lock_through, made_cell, through, is_null, number_of as number_in, elements_of, Elements, IsNumber, AreInts, IsReference, AreRefs, ne_eq, eq_refl}
use Rattle.sharc_code.specs.Says.{number_of}

-- ---- functions changed at one place
pub put_same : {A : Type 0} (f : ℕ → A) (i : ℕ) (v : A) → put f i v i ≡ v
put_same f i v = rw (eq_refl i) refl

pub put_other : {A : Type 0} (f : ℕ → A) (i j : ℕ) (v : A) → (j ≡ i → ⊥) → put f i v j ≡ f j
put_other f i j v ne = rw (ne_eq j i ne) refl

-- ---- references
pub null_is : (n e : ℕ) → is_null (reference n e) ≡ (n == 0)
null_is zero e = refl
null_is (suc n) e = not_zero (suc n + 2 ^ 32 * e) (omega arith) ∙ sym (ne_eq (suc n) 0 (λ q. omega arith))
  where
    not_zero : (k : ℕ) → 0 < k → is_null (pos k) ≡ false
    not_zero zero lt = absurd (omega arith)
    not_zero (suc k) lt = refl

pub number_is : (n e : ℕ) → IsNumber n → number_of (reference n e) ≡ n
number_is zero e h = refl
number_is (suc n) e h = let lt : suc n < 2 ^ 32 = h in omega arith

pub elements_are : (n e : ℕ) → 0 < n → IsNumber n → elements_of (reference n e) ≡ e
elements_are zero e some h = absurd (omega arith)
elements_are (suc n) e some h = let lt : suc n < 2 ^ 32 = h in omega arith

pub no_reference : (T : Elements) → IsReference T 0 (pos 0)
no_reference T = record { is = refl; small = omega arith }

-- with other elements, where those of the object are the same
pub retabled : (T T' : Elements) (n : ℕ) (v : ℤ) → IsReference T n v → (0 < n → T' n ≡ T n) → IsReference T' n v
retabled T T' zero v h k = record { is = h.is; small = h.small }
retabled T T' (suc n) v h k = record { is = h.is ∙ ap (reference (suc n)) (sym (k (omega arith))); small = h.small }

pub null_of : (T : Elements) (n : ℕ) (v : ℤ) → IsReference T n v → is_null v ≡ (n == 0)
null_of T n v h = ap is_null h.is ∙ null_is n (T n)

pub number_in_is : (n e : ℕ) → IsNumber n → number_in (reference n e) ≡ n
number_in_is zero e h = refl
number_in_is (suc n) e h = let lt : suc n < 2 ^ 32 = h in omega arith

pub number_from : (T : Elements) (n : ℕ) (v : ℤ) → IsReference T n v → number_in v ≡ n
number_from T n v h = ap number_in h.is ∙ number_in_is n (T n) h.small

-- the mutex of a path through a reference
pub through_is : (T : Elements) (n place : ℕ) (v : ℤ) → IsReference T n v → through v place ≡ lock_through n place
through_is T zero place v h = ap (λ v. through v place) h.is
through_is T (suc n) place v h =
    let e = null_of T (suc n) v h ∙ ne_eq (suc n) 0 (λ q. omega arith) in
    rw e (ap (λ k. Some (made_cell k place)) (number_from T (suc n) v h))

-- ---- banks
pub int_written : (xs : List ℤ) (many : ℕ) (ints : ℕ → ℤ) (k : ℕ) (v v' : ℤ) → v' ≡ v → k < many → AreInts xs many ints → AreInts (slice_set xs k v) many (put ints k v')
int_written xs many ints k v v' e lt h =
    let n = h.count in
    record {
      count = length-set xs k v ∙ h.count;
      are = λ i. ⊎_elim
          (λ (q : i ≡ k). subst (λ i. put ints k v' i ≡ slice_index_or (slice_set xs k v) i (pos 0)) (sym q) (put_same ints k v' ∙ e ∙ sym (get_or-set_same xs k v (pos 0) (omega arith))))
          (λ (ne : i ≡ k → ⊥). put_other ints k i v' ne ∙ h.are i ∙ sym (get_or-set_other xs k i v (pos 0) ne))
          (cases_eq i k);
    }

pub ref_written : (T : Elements) (xs : List ℕ) (many : ℕ) (refs : ℕ → ℤ) (k n : ℕ) (v : ℤ) → IsReference T n v → k < many → AreRefs T xs many refs → AreRefs T (slice_set xs k n) many (put refs k v)
ref_written T xs many refs k n v r lt h =
    let c = h.count in
    record {
      count = length-set xs k n ∙ h.count;
      are = λ i. ⊎_elim
          (λ (q : i ≡ k). subst (λ i. IsReference T (slice_index (slice_set xs k n) i) (put refs k v i)) (sym q)
          (subst (λ x. IsReference T x (put refs k v k)) (sym (get_or-set_same xs k n 0 (omega arith))) (subst (λ x. IsReference T n x) (sym (put_same refs k v)) r)))
          (λ (ne : i ≡ k → ⊥). subst (λ x. IsReference T x (put refs k v i)) (sym (get_or-set_other xs k i n 0 ne)) (subst (λ x. IsReference T (slice_index xs i) x) (sym (put_other refs k i v ne)) (h.are i)))
          (cases_eq i k);
    }

-- ---- equal references
value_of : ℕ → ℕ → ℕ
value_of zero e = 0
value_of (suc n) e = suc n + 2 ^ 32 * e

value_is : (n e : ℕ) → reference n e ≡ pos (value_of n e)
unfolding value_of
value_is zero e = refl
value_is (suc n) e = refl

same_value : (n k e f : ℕ) → IsNumber n → IsNumber k → value_of n e ≡ value_of k f → n ≡ k
same_value n k e f hn hk q =
    sym (number_is n e hn) ∙ ap number_of (value_is n e ∙ ap pos q ∙ sym (value_is k f)) ∙ number_is k f hk

both_le : (x y : ℕ) → (int_le (pos x) (pos y) && int_le (pos y) (pos x)) ≡ nat_eq x y
both_le x y = grind (arith, nat_tests)

test_from : (x y n k : ℕ) → (x ≡ y → n ≡ k) → (n ≡ k → x ≡ y) → nat_eq x y ≡ nat_eq n k
test_from x y n k f g = ⊎_elim
    (λ (e : x ≡ y). let z = f e in grind (arith, nat_tests))
    (λ (ne : x ≡ y → ⊥). ne_eq x y ne ∙ sym (ne_eq n k (λ e. ne (g e))))
    (cases_eq x y)

pub same_refs : (T : Elements) (n k : ℕ) (v w : ℤ) → IsReference T n v → IsReference T k w → (int_le v w && int_le w v) ≡ (n == k)
same_refs T n k v w hv hw =
    ap (λ v. int_le v w && int_le w v) (hv.is ∙ value_is n (T n)) ∙ ap (λ w. int_le (pos (value_of n (T n))) w && int_le w (pos (value_of n (T n)))) (hw.is ∙ value_is k (T k))
    ∙ both_le (value_of n (T n)) (value_of k (T k))
    ∙ test_from (value_of n (T n)) (value_of k (T k)) n k (same_value n k (T n) (T k) hv.small hw.small) (λ e. ap (λ n. value_of n (T n)) e)
