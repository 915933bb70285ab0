-- Products with powers of two, in two halves.
use Rattle.sharc_ask.proofs.Imports.{◌≡◌, ℕ, ℤ, pos, negsuc, zero, suc, ◌+◌, ◌*◌, ◌^◌, ◌<◌, ◌≤◌, ◌*ℤ◌, neg_ℤ, false, nat_lt, Result, Ok, Err, sym, ap, ◌∙◌, subst, arith, FitsSigned, w64, to_z, of_z, pos-*ℤ-pos, negsuc-*ℤ-pos, mul_assoc, nat_tests, pow-lt, pow-add, pow_pos, if◌then◌else◌, Trap, Width, Char, Int, Long, value_bits, in_range, not_below, grown, neg_times}
use Rattle.std.proofs.lemmas.Int.{to_z-of_z}

pub times : (a : ℤ) (m n : ℕ) → (a *ℤ pos m) *ℤ pos n ≡ a *ℤ pos (m * n)
times (pos a) m n = ap (λ z. z *ℤ pos n) (pos-*ℤ-pos a m) ∙ pos-*ℤ-pos (a * m) n ∙ ap pos (mul_assoc a m n) ∙ sym (pos-*ℤ-pos a (m * n))
times (negsuc a) m n = ap (λ z. z *ℤ pos n) (negsuc-*ℤ-pos a m) ∙ neg_times (suc a * m) n ∙ ap (λ (k : ℕ). neg_ℤ (pos k)) (mul_assoc (suc a) m n) ∙ sym (negsuc-*ℤ-pos a (m * n))

-- what does not fit does not fit when it is made larger
too_many : (width : Width) (k : ℕ) → 2 ^ 63 ≤ k → Err Trap.OutOfRange ≡ in_range (value_bits width) (pos k)
too_many Char k h = let e : nat_lt k 128 ≡ false = search (nat_tests, arith) in ap (λ b. if b then Ok (pos k) else Err Trap.OutOfRange) (sym e)
too_many Int k h = let e : nat_lt k 2147483648 ≡ false = search (nat_tests, arith) in ap (λ b. if b then Ok (pos k) else Err Trap.OutOfRange) (sym e)
too_many Long k h = let e : nat_lt k 9223372036854775808 ≡ false = search (nat_tests, arith) in ap (λ b. if b then Ok (pos k) else Err Trap.OutOfRange) (sym e)

too_few : (width : Width) (k : ℕ) → 2 ^ 63 < k → Err Trap.OutOfRange ≡ in_range (value_bits width) (neg_ℤ (pos k))
too_few width zero h = absurd (omega arith)
too_few Char (suc k) h = let e : nat_lt k 128 ≡ false = search (nat_tests, arith) in ap (λ b. if b then Ok (negsuc k) else Err Trap.OutOfRange) (sym e)
too_few Int (suc k) h = let e : nat_lt k 2147483648 ≡ false = search (nat_tests, arith) in ap (λ b. if b then Ok (negsuc k) else Err Trap.OutOfRange) (sym e)
too_few Long (suc k) h = let e : nat_lt k 9223372036854775808 ≡ false = search (nat_tests, arith) in ap (λ b. if b then Ok (negsuc k) else Err Trap.OutOfRange) (sym e)

pub outgrown : (width : Width) (z : ℤ) (n : ℕ) → 0 < n → (FitsSigned w64 z → ⊥) → Err Trap.OutOfRange ≡ in_range (value_bits width) (z *ℤ pos n)
outgrown width (pos a) n some out =
    let low : 2 ^ 63 ≤ a = not_below a (2 ^ 63) (λ h. out (record { sfits = h })) in
    too_many width (a * n) (omega (arith, low, grown a n some)) ∙ ap (in_range (value_bits width)) (sym (pos-*ℤ-pos a n))
outgrown width (negsuc a) n some out =
    let low : 2 ^ 63 ≤ a = not_below a (2 ^ 63) (λ h. out (record { sfits = h })) in
    too_few width (suc a * n) (omega (arith, low, grown (suc a) n some)) ∙ ap (in_range (value_bits width)) (sym (negsuc-*ℤ-pos a n))

-- an integer, read back from its bits
abbrev back : ℤ → ℤ
back z = to_z w64 (of_z w64 z)

backed : (z : ℤ) (k : ℕ) → k < 63 → z ≡ pos (2 ^ k) → back z ≡ pos (2 ^ k)
backed z k low is =
    let fits : FitsSigned w64 (pos (2 ^ k)) = record { sfits = pow-lt {i = k} {j = 63} low } in
    ap back is ∙ to_z-of_z w64 (pos (2 ^ k)) fits

pub in_halves : (width : Width) (v p q so_far : ℤ) (r : Result ℤ Trap) (by half rest : ℕ) → FitsSigned w64 v → FitsSigned w64 so_far → p ≡ pos (2 ^ half) → q ≡ pos (2 ^ rest) → half + rest ≡ by → half < 63 → rest < 63 → so_far ≡ back v *ℤ back p → r ≡ in_range (value_bits width) (back so_far *ℤ back q) → r ≡ in_range (value_bits width) (v *ℤ pos (2 ^ by))
in_halves width v p q so_far r by half rest fv fs ep eq sum lh lr es er =
    let s : so_far ≡ v *ℤ pos (2 ^ half) = es ∙ ap (λ z. z *ℤ back p) (to_z-of_z w64 v fv) ∙ ap (λ z. v *ℤ z) (backed p half lh ep) in
    let pw : 2 ^ half * 2 ^ rest ≡ 2 ^ by = sym (pow-add 2 half rest) ∙ ap (λ n. 2 ^ n) sum in
    er
    ∙ ap (λ z. in_range (value_bits width) (z *ℤ back q)) (to_z-of_z w64 so_far fs ∙ s)
    ∙ ap (λ z. in_range (value_bits width) ((v *ℤ pos (2 ^ half)) *ℤ z)) (backed q rest lr eq)
    ∙ ap (in_range (value_bits width)) (times v (2 ^ half) (2 ^ rest) ∙ ap (λ n. v *ℤ pos n) pw)

pub past_half : (width : Width) (v p : ℤ) (by half rest : ℕ) → FitsSigned w64 v → p ≡ pos (2 ^ half) → half + rest ≡ by → half < 63 → (FitsSigned w64 (back v *ℤ back p) → ⊥) → Err Trap.OutOfRange ≡ in_range (value_bits width) (v *ℤ pos (2 ^ by))
past_half width v p by half rest fv ep sum lh out =
    let e : back v *ℤ back p ≡ v *ℤ pos (2 ^ half) = ap (λ z. z *ℤ back p) (to_z-of_z w64 v fv) ∙ ap (λ z. v *ℤ z) (backed p half lh ep) in
    let pw : 2 ^ half * 2 ^ rest ≡ 2 ^ by = sym (pow-add 2 half rest) ∙ ap (λ n. 2 ^ n) sum in
    outgrown width (v *ℤ pos (2 ^ half)) (2 ^ rest) (pow_pos rest) (λ h. out (subst (FitsSigned w64) (sym e) h))
    ∙ ap (in_range (value_bits width)) (times v (2 ^ half) (2 ^ rest) ∙ ap (λ n. v *ℤ pos n) pw)
