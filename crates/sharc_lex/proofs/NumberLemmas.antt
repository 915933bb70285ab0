-- A value that is too large stays so, whatever digits follow.
use Rattle.sharc_lex.proofs.Imports.{◌≡◌, ℕ, ◌+◌, ◌*◌, ◌^◌, ◌<◌, ◌≤◌, Bool, true, false, cond, ltb, ◌&&◌, List, [], ◌∷◌, Some, None, ap, ◌∙◌, inl, inr, arith, mul-le-mul_left, ltb-true, ltb-false, le-ltb, cases_Bool, digit_value, value_behind, with_digit, small_value}

-- either the digit is one of the base or there is no value
value_behind-digit : (base high d : ℕ) (ds : List ℕ) (b : Bool) → ltb (digit_value d) base ≡ b → value_behind base high (d ∷ ds) ≡ cond b (value_behind base (high * base + digit_value d) ds) None
value_behind-digit base high d ds b e = ap (λ t. cond t (value_behind base (high * base + digit_value d) ds) None) e

grows : (base high v : ℕ) → 0 < base → high ≤ high * base + v
grows base high v h = let one : 1 ≤ base = omega arith in omega (arith, mul-le-mul_left high one)

pub large_stays : (base high : ℕ) (ds : List ℕ) → 0 < base → 2 ^ 63 ≤ high → small_value (value_behind base high ds) ≡ None
large_stays base high [] positive large = ap (λ t. cond t (Some high) None) (le-ltb high (2 ^ 63) large)
large_stays base high (d ∷ ds) positive large =
    elim (cases_Bool (ltb (digit_value d) base)) [
      | inl digit ↦ ap small_value (value_behind-digit base high d ds true digit) ∙ large_stays base (high * base + digit_value d) ds positive (let g = grows base high (digit_value d) positive in omega arith)
      | inr none ↦ ap small_value (value_behind-digit base high d ds false none)
    ]

-- where one more digit gives no number, no digits after it do
pub no_digit_stays : (base high d : ℕ) (ds : List ℕ) → with_digit base high d ≡ None → small_value (value_behind base high (d ∷ ds)) ≡ None
no_digit_stays base high d ds none =
    elim (cases_Bool (ltb (digit_value d) base)) [
      | inl digit ↦
          elim (cases_Bool (ltb (high * base + digit_value d) (2 ^ 63))) [
            | inl small ↦ let found : with_digit base high d ≡ Some (high * base + digit_value d) = ap (λ t. cond (t && ltb (high * base + digit_value d) (2 ^ 63)) (Some (high * base + digit_value d)) None) digit ∙ ap (λ t. cond t (Some (high * base + digit_value d)) None) small in cc
            | inr large ↦ ap small_value (value_behind-digit base high d ds true digit) ∙ large_stays base (high * base + digit_value d) ds (omega (arith, ltb-true (digit_value d) base digit)) (ltb-false (high * base + digit_value d) (2 ^ 63) large)
          ]
      | inr bad ↦ ap small_value (value_behind-digit base high d ds false bad)
    ]
