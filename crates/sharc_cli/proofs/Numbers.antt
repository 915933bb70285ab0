-- Tests of all elements, and of numbers.
use Rattle.sharc_cli.proofs.Imports.{◌≡◌, ◌∙◌, ap, sym, refl, ℕ, zero, suc, ◌+◌, ◌<◌, ◌≤◌, ◌^◌, Bool, true, false, ◌&&◌, List, [], ◌∷◌, map, drop, get_or, length, Result, Err, None, nat_le, lt_of_le_of_lt, OkIff, arith, leb-true, get_or_default, IsNumeralModel, numerals_by_value, parse_digits, tells_all_ascii_digits, list_all, is_ascii_digit, all_ascii_digits, ParsesUnsigned, digits_value, is_number, number_in, both}

module _ {X Y : Type 0} (p : Y → Bool) (h : X → Y) where
  all_from : (xs : List X) (i : ℕ) (d : X) → i < length xs → list_all p (map h (drop i xs)) ≡ (p (h (get_or xs i d)) && list_all p (map h (drop (i + 1) xs)))
  all_from [] i d l = absurd (omega arith)
  all_from (x ∷ xs) zero d l = refl
  all_from (x ∷ xs) (suc i) d l =
      let next : suc i + 1 ≡ suc (i + 1) = omega arith in
      rw next (all_from xs i d (omega arith))

  -- an element that fails settles the answer
  pub fails_at : (xs : List X) (i : ℕ) (d : X) (all : Bool) → i < length xs → d ≡ get_or xs i d → p (h d) ≡ false
      → list_all p (map h (drop i xs)) ≡ all → false ≡ all
  fails_at xs i d all l at fails kept =
      let this : p (h (get_or xs i d)) ≡ false = ap (λ x. p (h x)) (sym at) ∙ fails in
      sym (ap (λ b. b && list_all p (map h (drop (i + 1) xs))) this) ∙ (sym (all_from xs i d l) ∙ kept)

  -- one that passes leaves it to the rest
  pub passes_at : (xs : List X) (i : ℕ) (d : X) (all : Bool) → i < length xs → d ≡ get_or xs i d → p (h d) ≡ true
      → list_all p (map h (drop i xs)) ≡ all → list_all p (map h (drop (i + 1) xs)) ≡ all
  passes_at xs i d all l at passes kept =
      let this : p (h (get_or xs i d)) ≡ true = ap (λ x. p (h x)) (sym at) ∙ passes in
      sym (ap (λ b. b && list_all p (map h (drop (i + 1) xs))) this) ∙ (sym (all_from xs i d l) ∙ kept)

pub digits_as_all : (ds : List ℕ) → all_ascii_digits ds ≡ list_all is_ascii_digit (map (λ d. d) ds)
digits_as_all [] = refl
digits_as_all (d ∷ ds) = ap (λ b. is_ascii_digit d && b) (digits_as_all ds)

at_place : (ds : List ℕ) (i : ℕ) → all_ascii_digits (drop i ds) ≡ list_all is_ascii_digit (map (λ d. d) (drop i ds))
at_place ds i = digits_as_all (drop i ds)

pub digits_fail : (ds : List ℕ) (i : ℕ) → i < length ds → is_ascii_digit (get_or ds i 0) ≡ false
    → all_ascii_digits (drop i ds) ≡ all_ascii_digits ds → false ≡ all_ascii_digits ds
digits_fail ds i l fails kept = fails_at is_ascii_digit (λ x. x) ds i (get_or ds i 0) (all_ascii_digits ds) l (get_or_default ds i 0 (get_or ds i 0) l) fails (sym (at_place ds i) ∙ kept)

pub digits_pass : (ds : List ℕ) (i : ℕ) → i < length ds → is_ascii_digit (get_or ds i 0) ≡ true
    → all_ascii_digits (drop i ds) ≡ all_ascii_digits ds → all_ascii_digits (drop (i + 1) ds) ≡ all_ascii_digits ds
digits_pass ds i l passes kept = at_place ds (i + 1) ∙ passes_at is_ascii_digit (λ x. x) ds i (get_or ds i 0) (all_ascii_digits ds) l (get_or_default ds i 0 (get_or ds i 0) l) passes (sym (at_place ds i) ∙ kept)

own : IsNumeralModel (λ ds. all_ascii_digits ds ≡ true) (digits_value 10)
own = numerals_by_value _ tells_all_ascii_digits

-- what `parse` gives at digits
pub parses : {E : Type 0} (bs : List ℕ) (r : Result ℕ E) → ParsesUnsigned 64 10 bs r → all_ascii_digits bs ≡ true
    → OkIff r ((0 < length bs) × (digits_value 10 bs < 2 ^ 64)) (digits_value 10 bs)
parses bs r h digits = parse_digits own 64 bs r h digits

-- a text at which `parse` fails writes no number within the bounds
pub no_number : (low high : ℕ) (bs : List ℕ) {E : Type 0} (r : Result ℕ E) (e : E) → high < 2 ^ 64 → ParsesUnsigned 64 10 bs r → r ≡ Err e → None ≡ number_in low high bs
no_number low high bs r e fits h is = go (is_number bs && (nat_le low (digits_value 10 bs) && nat_le (digits_value 10 bs) high)) refl
  where
    go : (b : Bool) → (is_number bs && (nat_le low (digits_value 10 bs) && nat_le (digits_value 10 bs) high)) ≡ b → None ≡ number_in low high bs
    go false b = rw b refl
    go true b =
        let outer = both (is_number bs) _ b in
        let within = (both _ _ outer.1).1 in
        let number = both _ _ outer.0 in
        let some : 1 ≤ length bs = leb-true 1 (length bs) number.0 in
        let least : digits_value 10 bs ≤ high = leb-true (digits_value 10 bs) high within in
        let fails = rw is at (parses bs r h (both _ _ number.1).1) in
        absurd (fails (some, lt_of_le_of_lt least fits))
