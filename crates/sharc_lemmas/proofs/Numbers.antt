-- Numbers.
use Rattle.std.proofs.{Common.{Bool, Contains, [], ap, arith, eqb-true, false, inl, inr, ltb-true, neg_ℤ, pos, refl, suc, sym, true, zero, ℕ, ⊎_elim, ◌*ℤ◌, ◌*◌, ◌+◌, ◌-◌, ◌/◌, ◌<◌, ◌==◌, ◌∙◌, ◌≡◌, ◌≢◌, ◌≤◌}, Math.IntN.{negsuc-*ℤ-pos, zero-*ℤ}, Math.Nat.mul-le-mul_left, lemmas.Bool.{cases_eq, cases_lt, eq-eqb, le-leb, lt-leb}, lemmas.Bool.Decides.nat_tests}
use Rattle.std.specs.Prelude.{nat_eq, nat_le, nat_lt}

pub same_is : (x : ℕ) → (x == x) ≡ true
same_is x = eq-eqb x x refl

pub ne_eq : (m n : ℕ) → (m ≡ n → ⊥) → nat_eq m n ≡ false
ne_eq m n ne = grind (arith, nat_tests)

pub lt_true : (n limit : ℕ) → nat_lt n limit ≡ true → n < limit
lt_true n limit e = grind (arith, nat_tests)

pub eq_refl : (n : ℕ) → nat_eq n n ≡ true
eq_refl n = grind (arith, nat_tests)

pub eqb_other : (m n : ℕ) → (m ≡ n → ⊥) → (m == n) ≡ false
eqb_other m n ne = grind (arith, nat_tests)

pub not_below : (a b : ℕ) → nat_lt a b ≡ false → b ≤ a
not_below a b e = grind (arith, nat_tests)

pub is_below : (a b : ℕ) → a < b → nat_lt a b ≡ true
is_below a b lt = grind (arith, nat_tests)

pub same_number : (a b : ℕ) → (a == b) ≡ true → a ≡ b
same_number a b h = grind (arith, nat_tests)

pub some_star : (n : ℕ) → (n + 1 == 0) ≡ false
some_star n = by (n + 1 == 0) refl
  where
    by : (z : Bool) → (n + 1 == 0) ≡ z → z ≡ false
    by true h = let e = eqb-true (n + 1) 0 h in absurd (omega (arith, e))
    by false h = refl

pub le_true : (m n : ℕ) → nat_le m n ≡ true → m ≤ n
le_true m n e = grind (arith, nat_tests)

pub below : (made limit : ℕ) → made < limit → (made == limit) ≡ false
below made limit h = grind (arith, nat_tests)

pub not_long : (most n : ℕ) → most < n → n ≤ most → ⊥
not_long most n more short = omega (arith, more, short)

pub ne_zero : (n : ℕ) → (n ≡ 0 → ⊥) → (n == 0) ≡ false
ne_zero n ne = grind (arith, nat_tests)

pub zero_le : (n : ℕ) → 0 ≤ n
zero_le n = omega arith

pub none_there : (t : ℕ) → Contains [] t → ⊥
none_there t (k, low, is) = omega (arith, low)

pub one_less : (n : ℕ) → nat_lt 0 n ≡ true → n ≡ n - 1 + 1
one_less n h = let less = ltb-true 0 n h in omega (arith, less)

pub next : (n : ℕ) → suc n ≡ n + 1
next n = omega arith

pub test_down : (m : ℕ) → m < 64 → nat_le 64 m ≡ false
test_down m h = lt-leb 64 m h

pub half : (n : ℕ) → n ≤ 2 * ((n + 1) / 2)
half n = omega arith

pub not_below2 : (a b : ℕ) → (a < b → ⊥) → b ≤ a
not_below2 a b out = elim (cases_lt a b) [ inl lt ↦ absurd (out lt) | inr le ↦ le ]

pub same_test : (a b : ℕ) → (a == b) ≡ nat_eq b a
same_test a b = by_tests (a == b) (nat_eq b a) refl refl
  where
    equal : (a == b) ≡ true → a ≡ b
    equal e = grind (arith, nat_tests)

    other : (a == b) ≡ false → a ≡ b → ⊥
    other e q = grind (arith, nat_tests)

    equal_too : nat_eq b a ≡ true → b ≡ a
    equal_too e = grind (arith, nat_tests)

    other_too : nat_eq b a ≡ false → b ≡ a → ⊥
    other_too e q = grind (arith, nat_tests)

    by_tests : (x y : Bool) → (a == b) ≡ x → nat_eq b a ≡ y → x ≡ y
    by_tests true true p q = refl
    by_tests false false p q = refl
    by_tests true false p q = absurd (other_too q (sym (equal p)))
    by_tests false true p q = absurd (other p (sym (equal_too q)))

pub grown : (a n : ℕ) → 0 < n → a ≤ a * n
grown a n some = omega (arith, mul-le-mul_left a some)

pub neg_times : (k n : ℕ) → neg_ℤ (pos k) *ℤ pos n ≡ neg_ℤ (pos (k * n))
neg_times zero n = zero-*ℤ (pos n) ∙ ap (λ (j : ℕ). neg_ℤ (pos j)) (let e : 0 ≡ zero * n = omega arith in e)
neg_times (suc k) n = negsuc-*ℤ-pos k n

pub times_more : (d m : ℕ) → suc d * m ≡ d * m + m
times_more d m = grind arith

pub same_bit : (x y : ℕ) → x < 2 → y < 2 → (x == 1) ≡ (y == 1) → x ≡ y
same_bit x y x_bit y_bit same = grind (arith, nat_tests)

pub other_is : (n k : ℕ) → n ≢ k → (n == k) ≡ false
other_is n k ne = grind (arith, nat_tests)

pub le_true2 : (m n : ℕ) → m ≤ n → nat_le m n ≡ true
le_true2 = le-leb

pub times_low : (d n m : ℕ) → d ≤ n → d * m ≤ n * m
times_low d n m h = grind arith

pub one_of_two : (v m w n : ℕ) (P : Type 0) → (v ≡ w → m ≡ n → P) → ((v ≡ w → m ≡ n → ⊥) → P) → P
one_of_two v m w n P f g =
    ⊎_elim
    (λ (e : v ≡ w). ⊎_elim (λ (h : m ≡ n). f e h) (λ (h : m ≡ n → ⊥). g (λ a. h)) (cases_eq m n))
    (λ (e : v ≡ w → ⊥). g (λ a b. e a))
    (cases_eq v w)
