-- Cells, references and values, by their parts.
use Rattle.sharc_audit.proofs.{Imports.{◌≡◌, inl, inr, ℕ, suc, ◌<◌, ◌≤◌, ◌^◌, true, false, [], ◌∷◌, ◌-◌, length, take, drop, slice_index_or, Option, Some, None, refl, ap, sym, subst, ◌∙◌, arith, or_from, ltb-true, ℤ, pos, negsuc, nat_eq, decimal, codes, MatchOption, all_ascii_digits, list_any, CellAt, Object, Global, Made, is_held_by, Text, IsCut, IsNumber, thread_most, IsObject, IsCell, IsPair, IsReference, IsSigned, IsValue}, Numerals.{decimal_free, decimal_free_above, parts_of, all_digits, some_digit}}

pub object_free : (o : Object) (text : Text) → IsObject o text → list_any (nat_eq 46) text ≡ false
object_free (Global i) text h = ap (list_any (nat_eq 46)) h.1 ∙ or_from (nat_eq 46 103) (list_any (nat_eq 46) (decimal i)) refl (decimal_free 46 i (omega arith) (let b = h.0 in omega (arith, b)))
object_free (Made n) text h = ap (list_any (nat_eq 46)) h.2 ∙ or_from (nat_eq 46 111) (list_any (nat_eq 46) (decimal n)) refl (decimal_free 46 n (omega arith) (let b = h.1 in omega (arith, b)))

pub cell_parts : (text a b : Text) (c : CellAt) → IsCut 46 text a b → IsCell text c → IsObject c.object a × IsNumber 0 9223372036854775807 b c.cell
cell_parts text a b c cut h =
    let p = parts_of 46 text a b h.object_text (decimal c.cell) cut h.is (object_free c.object h.object_text h.object) in
    (subst (IsObject c.object) (sym p.0) h.object, record { is = p.1; above = omega arith; below = (let s = h.cell in omega (arith, s)) })

pub pair_parts : (text a b : Text) (v : ℤ) (h : IsPair text v) → IsCut 58 text a b → IsNumber 1 thread_most a h.number × IsNumber 1 2147483647 b h.elements
pair_parts text a b v h cut =
    let p = parts_of 58 text a b (decimal h.number) (decimal h.elements) cut h.is (decimal_free_above 58 h.number (omega arith) (let s = h.number_most in omega (arith, s))) in
    (record { is = p.0; above = h.some; below = h.number_most }, record { is = p.1; above = h.elements_some; below = h.elements_most })

reference_none : (text : Text) → (text ≡ codes "0" → ⊥) → ((v : ℤ) → IsPair text v → ⊥) → (v : ℤ) → IsReference text v → ⊥
reference_none text other h v (inl z) = other z.0
reference_none text other h v (inr p) = h v p

pub reference_by : (text : Text) (r : Option ℤ) → (text ≡ codes "0" → ⊥) → MatchOption r ((v : ℤ) → IsPair text v → ⊥) (λ v. IsPair text v) → MatchOption r ((v : ℤ) → IsReference text v → ⊥) (λ v. IsReference text v)
reference_by text None other h = reference_none text other h
reference_by text (Some v) other h = inr h

value_none : (text : Text) → ((v : ℤ) → IsSigned text v → ⊥) → ((v : ℤ) → IsPair text v → ⊥) → (v : ℤ) → IsValue text v → ⊥
value_none text other h v (inl z) = other v z
value_none text other h v (inr p) = h v p

pub value_by : (text : Text) (r : Option ℤ) → ((v : ℤ) → IsSigned text v → ⊥) → MatchOption r ((v : ℤ) → IsPair text v → ⊥) (λ v. IsPair text v) → MatchOption r ((v : ℤ) → IsValue text v → ⊥) (λ v. IsValue text v)
value_by text None other h = value_none text other h
value_by text (Some v) other h = inr h

-- ---- signed decimals

pub held_small : (n : ℕ) → is_held_by 63 (pos n) ≡ true → n ≤ 9223372036854775807
held_small n h = let s = ltb-true n (2 ^ 63) h in omega (arith, s)

-- digits begin with no minus sign
minus_first : (ds rest : Text) → all_ascii_digits ds ≡ true → ds ≡ 45 ∷ rest → ⊥
minus_first ds rest p e = let z : true ≡ false = sym p ∙ ap all_ascii_digits e in absurd (cc)

pub digits_no_minus : (n : ℕ) (rest : Text) → n < 2 ^ 64 → decimal n ≡ 45 ∷ rest → ⊥
digits_no_minus n rest h e = minus_first (decimal n) rest (all_digits n h) e

-- after a minus sign
pub minus_none : (rest text : Text) → ((n : ℕ) → IsNumber 1 9223372036854775808 rest n → ⊥) → text ≡ 45 ∷ rest → (v : ℤ) → IsSigned text v → ⊥
minus_none rest text none e (pos n) h = digits_no_minus n rest (let s = held_small n h.1 in omega (arith, s)) (sym h.0 ∙ e)
minus_none rest text none e (negsuc n) h =
    let same : 45 ∷ rest ≡ 45 ∷ decimal (suc n) = sym e ∙ h.0 in
    let tails : rest ≡ decimal (suc n) = cc in
    none (suc n) (record { is = tails; above = omega arith; below = (let s = ltb-true n (2 ^ 63) h.1 in omega (arith, s)) })

-- a text by its first byte
pub first_is : (text : Text) (d : ℕ) → 0 < length text → slice_index_or text 0 0 ≡ d → text ≡ d ∷ take (length text - 1) (drop 1 text)
first_is [] d h e = absurd (omega (arith, h))
first_is (x ∷ text) d h e = ap (λ z. z ∷ text) e ∙ ap (λ z. d ∷ z) (sym (whole text)) ∙ ap (λ n. d ∷ take n text) (let k : length text ≡ length (x ∷ text) - 1 = omega arith in k)
  where
    whole : (k : Text) → take (length k) k ≡ k
    whole [] = refl
    whole (y ∷ k) = ap (λ z. y ∷ z) (whole k)

-- no signed decimal is empty
pub empty_signed : (text : Text) → length text ≡ 0 → (v : ℤ) → IsSigned text v → ⊥
empty_signed text e (pos n) h = let some = some_digit n (let s = held_small n h.1 in omega (arith, s)) in let k : length text ≡ length (decimal n) = ap length h.0 in omega (arith, e, some, k)
empty_signed text e (negsuc n) h = let k : length text ≡ length (45 ∷ decimal (suc n)) = ap length h.0 in omega (arith, e, k)
