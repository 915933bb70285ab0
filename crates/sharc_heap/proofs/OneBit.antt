-- Bits of a number: shifted, and with one of them cleared.
use Rattle.sharc_heap.proofs.Imports.{◌≡◌, ◌≢◌, ℕ, ◌+◌, ◌-◌, ◌*◌, ◌/◌, ◌^◌, ◌%◌, ◌<◌, ◌==◌, ◌||◌, ◌&&◌, min, max, bit_and, sym, ap, subst, ◌∙◌, inl, inr, arith, w64, div-div-eq-div-mul, mod-eq_of_lt, pow-lt, pow-add, and_le_l, bit_at_and, bit_at_above, bit_at_clear_same, bit_at_clear_other, cases_lt, nat_tests, bit_at, bit_not}

pub max_test : (x y : ℕ) → x < 2 → y < 2 → (max x y == 1) ≡ (x == 1 || y == 1)
max_test x y x_bit y_bit = grind (arith, nat_tests)

-- the bits of a number without its low ones
pub bit_at_shifted : (n s i : ℕ) → bit_at (n / 2 ^ s) i ≡ bit_at n (s + i)
bit_at_shifted n s i = ap (λ q. q % 2) (div-div-eq-div-mul n (2 ^ s) (2 ^ i) ∙ ap (λ p. n / p) (sym (pow-add 2 s i)))

-- a number of 64 bits without its bit k
pub record IsWithout (k old new : ℕ) : Type 0 where
  pub gone : bit_at new k ≡ 0
  pub others : (i : ℕ) → i ≢ k → bit_at new i ≡ bit_at old i

without : (old k : ℕ) → old < 2 ^ 64 → k < 64 → IsWithout k old (bit_and old (bit_not w64 (1 * 2 ^ k % 2 ^ 64)))
without old k is_word within = record {
  gone = bit_at_clear_same w64 old k within;
  others = λ i other. elim (cases_lt i 64) [
    | inl below ↦ bit_at_clear_other w64 old k within i below other
    | inr above ↦
        let none = bit_at_above old 64 i is_word above in
        bit_at_and old (bit_not w64 (1 * 2 ^ k % 2 ^ 64)) i ∙ ap (λ b. min b (bit_at (bit_not w64 (1 * 2 ^ k % 2 ^ 64)) i)) none ∙ min_zero (bit_at (bit_not w64 (1 * 2 ^ k % 2 ^ 64)) i) ∙ sym none
  ];
}
  where
    min_zero : (b : ℕ) → min 0 b ≡ 0
    min_zero b = omega arith

-- the same, with the mask as the code makes it of the bit
pub without_bit : (old bit k : ℕ) → old < 2 ^ 64 → k < 64 → bit ≡ 2 ^ k → IsWithout k old (bit_and old (18446744073709551615 - bit))
without_bit old bit k is_word within is =
    let once : 1 * 2 ^ k ≡ 2 ^ k = omega arith in
    let same : 1 * 2 ^ k % 2 ^ 64 ≡ bit = ap (λ n. n % 2 ^ 64) once ∙ mod-eq_of_lt (pow-lt {i = k} {j = 64} within) ∙ sym is in
    let P : ℕ → Type 0 = λ b. IsWithout k old (bit_and old (18446744073709551615 - b)) in
    subst P same (without old k is_word within)

pub and_fits : (a b : ℕ) → a < 2 ^ 64 → bit_and a b < 2 ^ 64
and_fits a b fits = let less = and_le_l a b in omega arith
