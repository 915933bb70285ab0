-- The registers of the variables that stand, where one more stands.
use Rattle.sharc_accepted_laws.proofs.{Imports.{◌≡◌, ℕ, ◌+◌, ◌<◌, Bool, true, false, cond, List, [], ◌∷◌, ◌++◌, length, slice_get, refl, ap, sym, ◌∙◌, arith, Some, Slot, int_count, ref_count, pointers, integers, front_got}, StaticRegisters.{pointer_count, pointers_more}}

last_got : {A : Type 0} (a : List A) (x : A) → slice_get (a ++ x ∷ []) (length a) ≡ Some x
last_got [] x = refl
last_got (y ∷ a) x = last_got a x

pub pointer_last : (scope : List Slot) (s : Slot) → s.is_pointer ≡ true → slice_get (pointers (scope ++ s ∷ [])) (ref_count scope) ≡ Some s.token
pointer_last scope s is =
    ap (λ l. slice_get l (ref_count scope)) (pointers_more (s ∷ []) scope ∙ ap (λ b. pointers scope ++ cond b (s.token ∷ []) []) is)
    ∙ ap (slice_get (pointers scope ++ s.token ∷ [])) (sym (pointer_count scope)) ∙ last_got (pointers scope) s.token

pub ref_more : (scope : List Slot) (s : Slot) (p : Bool) → s.is_pointer ≡ p → ref_count (scope ++ s ∷ []) ≡ cond p (ref_count scope + 1) (ref_count scope)
ref_more [] s p is = ap (λ b. cond b (0 + 1) 0) is
ref_more (x ∷ rest) s p is = by x.is_pointer p (ref_more rest s p is)
  where
    by : (b p : Bool) → ref_count (rest ++ s ∷ []) ≡ cond p (ref_count rest + 1) (ref_count rest)
        → cond b (ref_count (rest ++ s ∷ []) + 1) (ref_count (rest ++ s ∷ [])) ≡ cond p (cond b (ref_count rest + 1) (ref_count rest) + 1) (cond b (ref_count rest + 1) (ref_count rest))
    by true true e = ap (λ k. k + 1) e
    by true false e = ap (λ k. k + 1) e
    by false true e = e
    by false false e = e

-- ---- integers
integer_count : (scope : List Slot) → length (integers scope) ≡ int_count scope
integer_count [] = refl
integer_count (z ∷ rest) = by z.is_pointer (integer_count rest)
  where
    by : (b : Bool) → length (integers rest) ≡ int_count rest → length (cond b (integers rest) (z.token ∷ integers rest)) ≡ cond b (int_count rest) (int_count rest + 1)
    by true e = e
    by false e = omega (arith, e)

integers_more : (scope more : List Slot) → integers (scope ++ more) ≡ integers scope ++ integers more
integers_more [] more = refl
integers_more (z ∷ rest) more = by z.is_pointer (integers_more rest more)
  where
    by : (b : Bool) → integers (rest ++ more) ≡ integers rest ++ integers more
        → cond b (integers (rest ++ more)) (z.token ∷ integers (rest ++ more)) ≡ cond b (integers rest) (z.token ∷ integers rest) ++ integers more
    by true e = e
    by false e = ap (λ l. z.token ∷ l) e

pub integer_kept : (scope more : List Slot) (j : ℕ) → j < int_count scope → slice_get (integers (scope ++ more)) j ≡ slice_get (integers scope) j
integer_kept scope more j low = ap (λ l. slice_get l j) (integers_more scope more) ∙ front_got (integers scope) (integers more) j (let n = integer_count scope in omega (arith, low, n))

pub integer_last : (scope : List Slot) (s : Slot) → s.is_pointer ≡ false → slice_get (integers (scope ++ s ∷ [])) (int_count scope) ≡ Some s.token
integer_last scope s is =
    ap (λ l. slice_get l (int_count scope)) (integers_more scope (s ∷ []) ∙ ap (λ b. integers scope ++ cond b [] (s.token ∷ [])) is)
    ∙ ap (slice_get (integers scope ++ s.token ∷ [])) (sym (integer_count scope)) ∙ last_got (integers scope) s.token

pub int_more : (scope : List Slot) (s : Slot) (p : Bool) → s.is_pointer ≡ p → int_count (scope ++ s ∷ []) ≡ cond p (int_count scope) (int_count scope + 1)
int_more [] s p is = ap (λ b. cond b 0 (0 + 1)) is
int_more (x ∷ rest) s p is = by x.is_pointer p (int_more rest s p is)
  where
    by : (b p : Bool) → int_count (rest ++ s ∷ []) ≡ cond p (int_count rest) (int_count rest + 1)
        → cond b (int_count (rest ++ s ∷ [])) (int_count (rest ++ s ∷ []) + 1) ≡ cond p (cond b (int_count rest) (int_count rest + 1)) (cond b (int_count rest) (int_count rest + 1) + 1)
    by true true e = e
    by true false e = e
    by false true e = ap (λ k. k + 1) e
    by false false e = ap (λ k. k + 1) e
