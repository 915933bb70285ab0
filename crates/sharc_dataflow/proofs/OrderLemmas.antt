-- Of warnings in order, the first of each read.
use Rattle.sharc_dataflow.proofs.{Imports.{◌≡◌, ℕ, suc, ◌+◌, ◌<◌, ◌≤◌, nat_lt, ◌==◌, List, [], ◌∷◌, ◌⊎◌, inl, inr, Option, Some, None, Bool, true, false, Contains, refl, ap, subst, ◌∙◌, arith, cond, nat_tests, Contains-append_left, Contains-append_right, Contains-append_cases, Contains-push, Contains-permutation, IsPermutation-sym, slice_index_or, if◌then◌else◌, Less, Equal, Greater, is_lt, ordering_then, IsSortedByKey, FlowWarning, read_and_since, by_read, IsInOrder, is_read, first_each, warning, HasWarning, Rising, AreFirsts}, Found.one_is}

abbrev Before : FlowWarning → FlowWarning → Type 0
Before a b = (a.read < b.read) ⊎ ((a.read ≡ b.read) × (a.since ≤ b.since))

abbrev AllBefore : FlowWarning → List FlowWarning → Type 0
AllBefore a [] = Unit {0}
AllBefore a (b ∷ l) = Before a b × AllBefore a l

abbrev Sorted : List FlowWarning → Type 0
Sorted [] = Unit {0}
Sorted (a ∷ l) = AllBefore a l × Sorted l

abbrev Chain : List FlowWarning → Type 0
Chain (a ∷ (b ∷ l)) = Before a b × Chain (b ∷ l)
Chain _ = Unit {0}

before_trans : (a b c : FlowWarning) → Before a b → Before b c → Before a c
before_trans a b c (inl h) (inl i) = inl (omega arith)
before_trans a b c (inl h) (inr i) = inl (omega (arith, i.0))
before_trans a b c (inr h) (inl i) = inl (omega (arith, h.0))
before_trans a b c (inr h) (inr i) = inr (h.0 ∙ i.0, omega (arith, h.1, i.1))

all_before : (a b : FlowWarning) (l : List FlowWarning) → Before a b → AllBefore b l → AllBefore a l
all_before a b [] h s = tt
all_before a b (c ∷ l) h s = (before_trans a b c h s.0, all_before a b l h s.1)

chain_sorted : (l : List FlowWarning) → Chain l → Sorted l
chain_sorted [] h = tt
chain_sorted (a ∷ []) h = (tt, tt)
chain_sorted (a ∷ (b ∷ l)) h = let s = chain_sorted (b ∷ l) h.1 in ((h.0, all_before a b l h.0 s.0), s)

-- b does not come before a
later : (p q r t : ℕ) (v w u : Bool) → nat_lt p q ≡ v → (p == q) ≡ w → nat_lt r t ≡ u → is_lt (ordering_then (cond v Less (cond w Equal Greater)) (cond u Less (cond (r == t) Equal Greater))) ≡ false → (q < p) ⊎ ((q ≡ p) × (t ≤ r))
later p q r t true w u a b c e = absurd (cc)
later p q r t false true true a b c e = absurd (cc)
later p q r t false true false a b c e = inr (grind (arith, nat_tests, b), grind (arith, nat_tests, c))
later p q r t false false u a b c e = inl (grind (arith, nat_tests, a, b))

not_after : (a b : FlowWarning) → is_lt (by_read (read_and_since b) (read_and_since a)) ≡ false → Before a b
not_after a b e = later b.read a.read b.since a.since (nat_lt b.read a.read) (b.read == a.read) (nat_lt b.since a.since) refl refl refl e

chained : (l : List FlowWarning) → IsSortedByKey read_and_since by_read l → Chain l
chained (a ∷ (b ∷ l)) h = (not_after a b (h 0 a (omega arith) (omega arith)), chained (b ∷ l) (λ k d low high. shifted k d (h (suc k) d (omega arith) (omega arith))))
  where
    shifted : (k : ℕ) (d : FlowWarning) → is_lt (by_read (read_and_since (slice_index_or (a ∷ (b ∷ l)) (suc k + 1) d)) (read_and_since (slice_index_or (a ∷ (b ∷ l)) (suc k) d))) ≡ false
        → is_lt (by_read (read_and_since (slice_index_or (b ∷ l) (k + 1) d)) (read_and_since (slice_index_or (b ∷ l) k d))) ≡ false
    shifted k d e = let n : suc k + 1 ≡ suc (k + 1) = omega arith in subst (λ j. is_lt (by_read (read_and_since (slice_index_or (a ∷ (b ∷ l)) j d)) (read_and_since (slice_index_or (b ∷ l) k d))) ≡ false) n e
chained _ h = tt

is_read_same : (p : Option ℕ) (r : ℕ) → is_read p r ≡ true → p ≡ Some r
is_read_same None r e = absurd (cc)
is_read_same (Some q) r e = let s : q ≡ r = grind (arith, nat_tests, e) in ap Some s

from_cons : (a w : FlowWarning) (l : List FlowWarning) → Contains (a ∷ l) w → (a ≡ w) ⊎ Contains l w
from_cons a w l h = elim (Contains-append_cases (a ∷ []) l w h) [ inl i ↦ inl (one_is a w i) | inr i ↦ inr i ]

in_tail : (a w : FlowWarning) (l : List FlowWarning) → Contains l w → Contains (a ∷ l) w
in_tail a w l h = Contains-append_right (a ∷ []) l w h

in_head : (a : FlowWarning) (l : List FlowWarning) → Contains (a ∷ l) a
in_head a l = Contains-append_left (a ∷ []) l a (Contains-push [] a)

kept_from : (p : Option ℕ) (l : List FlowWarning) (w : FlowWarning) → Contains (first_each p l) w → Contains l w
kept_from p [] w h = h
kept_from p (a ∷ l) w h = found (is_read p a.read) (kept_from p l w) (kept_from (Some a.read) l w) h
  where
    found : (b : Bool) → (Contains (first_each p l) w → Contains l w) → (Contains (first_each (Some a.read) l) w → Contains l w) → Contains (if b then first_each p l else a ∷ first_each (Some a.read) l) w → Contains (a ∷ l) w
    found true one two i = in_tail a w l (one i)
    found false one two i = elim (from_cons a w (first_each (Some a.read) l) i) [ inl e ↦ subst (Contains (a ∷ l)) e (in_head a l) | inr j ↦ in_tail a w l (two j) ]

before_in : (a b : FlowWarning) (l : List FlowWarning) → AllBefore a l → Contains l b → Before a b
before_in a b [] s h = absurd (omega (arith, h.1))
before_in a b (c ∷ l) s h = found (before_in a b l s.1) (from_cons c b l h)
  where
    found : (Contains l b → Before a b) → (c ≡ b) ⊎ Contains l b → Before a b
    found ih (inl e) = subst (Before a) e s.0
    found ih (inr i) = ih i

since_first : (a : FlowWarning) (k r : ℕ) → Before a (warning r k) → a.read ≡ r → a.since ≤ k
since_first a k r (inl h) e = omega arith
since_first a k r (inr h) e = h.1

first_told : (p : Option ℕ) (l : List FlowWarning) (k r : ℕ) → Sorted l → Contains l (warning r k) → (p ≡ Some r) ⊎ HasWarning (first_each p l) k r
first_told p [] k r s h = absurd (omega (arith, h.1))
first_told p (a ∷ l) k r s h = found (is_read p a.read) refl (λ i. first_told p l k r s.1 i) (λ i. first_told (Some a.read) l k r s.1 i) (from_cons a (warning r k) l h)
  where
    after : Contains l (warning r k) → (Some a.read ≡ Some r) ⊎ HasWarning (first_each (Some a.read) l) k r → HasWarning (a ∷ first_each (Some a.read) l) k r
    after i (inl e) = let q : a.read ≡ r = cc in record { since = a.since; first = since_first a k r (before_in a (warning r k) l s.0 i) q; has = subst (λ z. Contains (a ∷ first_each (Some a.read) l) (warning z a.since)) q (in_head a (first_each (Some a.read) l)) }
    after i (inr w) = record { since = w.since; first = w.first; has = in_tail a (warning r w.since) (first_each (Some a.read) l) w.has }

    found : (b : Bool) → is_read p a.read ≡ b → (Contains l (warning r k) → (p ≡ Some r) ⊎ HasWarning (first_each p l) k r) → (Contains l (warning r k) → (Some a.read ≡ Some r) ⊎ HasWarning (first_each (Some a.read) l) k r) → (a ≡ warning r k) ⊎ Contains l (warning r k)
        → (p ≡ Some r) ⊎ HasWarning (if b then first_each p l else a ∷ first_each (Some a.read) l) k r
    found true e one two (inl q) = inl (is_read_same p a.read e ∙ ap (λ (z : FlowWarning). Some z.read) q)
    found true e one two (inr i) = one i
    found false e one two (inl q) = inr (record { since = k; first = omega arith; has = subst (λ z. Contains (a ∷ first_each (Some a.read) l) z) q (in_head a (first_each (Some a.read) l)) })
    found false e one two (inr i) = inr (after i (two i))

abbrev Above : Option ℕ → ℕ → Type 0
Above None r = Unit {0}
Above (Some q) r = q < r

abbrev Floor : Option ℕ → List FlowWarning → Type 0
Floor p [] = Unit {0}
Floor p (a ∷ l) = ((q : ℕ) → p ≡ Some q → q ≤ a.read) × Floor p l

abbrev RisingFrom : Option ℕ → List FlowWarning → Type 0
RisingFrom p [] = Unit {0}
RisingFrom p (a ∷ l) = Above p a.read × RisingFrom (Some a.read) l

is_above : (p : Option ℕ) (r : ℕ) → ((q : ℕ) → p ≡ Some q → q ≤ r) → is_read p r ≡ false → Above p r
is_above None r f e = tt
is_above (Some q) r f e = let i = f q refl in grind (arith, nat_tests, e, i)

no_later : (a b : FlowWarning) → Before a b → a.read ≤ b.read
no_later a b (inl h) = omega arith
no_later a b (inr h) = omega (arith, h.0)

floor_of : (a : FlowWarning) (l : List FlowWarning) → AllBefore a l → Floor (Some a.read) l
floor_of a [] s = tt
floor_of a (b ∷ l) s = (λ q e. let i : a.read ≡ q = cc in let j = no_later a b s.0 in omega arith, floor_of a l s.1)

no_floor : (l : List FlowWarning) → Floor None l
no_floor [] = tt
no_floor (a ∷ l) = (λ q e. absurd (cc), no_floor l)

rises : (p : Option ℕ) (l : List FlowWarning) → Sorted l → Floor p l → RisingFrom p (first_each p l)
rises p [] s f = tt
rises p (a ∷ l) s f = found (is_read p a.read) refl (rises p l s.1 f.1) (rises (Some a.read) l s.1 (floor_of a l s.0))
  where
    found : (b : Bool) → is_read p a.read ≡ b → RisingFrom p (first_each p l) → RisingFrom (Some a.read) (first_each (Some a.read) l) → RisingFrom p (if b then first_each p l else a ∷ first_each (Some a.read) l)
    found true e one two = one
    found false e one two = (is_above p a.read f.0 e, two)

rising_is : (p : Option ℕ) (l : List FlowWarning) → RisingFrom p l → Rising l
rising_is p (a ∷ (b ∷ l)) h = (h.1.0, rising_is (Some a.read) (b ∷ l) h.1)
rising_is p _ h = tt

pub are_firsts : (found sorted : List FlowWarning) → IsInOrder found sorted → AreFirsts found (first_each None sorted)
are_firsts found sorted h =
    let s = chain_sorted sorted (chained sorted h.in_order) in
    record {
      rising = rising_is None (first_each None sorted) (rises None sorted s (no_floor sorted));
      only = λ w i. Contains-permutation sorted found w (IsPermutation-sym found sorted h.each_once) (kept_from None sorted w i);
      all = λ k r i. told k r (first_told None sorted k r s (Contains-permutation found sorted (warning r k) h.each_once i));
    }
  where
    told : (k r : ℕ) → (None ≡ Some r) ⊎ HasWarning (first_each None sorted) k r → HasWarning (first_each None sorted) k r
    told k r (inl e) = absurd (cc)
    told k r (inr w) = w
