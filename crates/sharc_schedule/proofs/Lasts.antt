-- A place that comes after others, counted together with them.
use Rattle.sharc_schedule.proofs.Imports.{dite, ◌≡◌, ◌≢◌, ℕ, zero, suc, ◌+◌, ◌<◌, Bool, true, false, nat_eq, List, [], ◌∷◌, ◌++◌, length, get_or, set, replicate, refl, sym, ap, ◌∙◌, arith, append_assoc, eq-eqb, ne_eqb, if◌then◌else◌, ℕ_discrete, counted_in, counted_together, if_no, if_yes}

abbrev pub add_last : ℕ → List (ℕ × ℕ) → List (ℕ × ℕ)
add_last p [] = (p, 1) ∷ []
add_last p (x ∷ []) = if nat_eq p x.0 then (x.0, suc x.1) ∷ [] else x ∷ (p, 1) ∷ []
add_last p (x ∷ y ∷ more) = x ∷ add_last p (y ∷ more)

add_in : (p q : ℕ) (xs : List (ℕ × ℕ)) → counted_in q (add_last p xs) ≡ add_last p (counted_in q xs)
add_in p q [] = dite (ℕ_discrete q p)
    (λ e. rw (eq-eqb q p e, eq-eqb p q (sym e)) (ap (λ n. (n, 2) ∷ []) (sym e)))
    (λ apart. rw (ne_eqb q p apart, ne_eqb p q (λ h. apart (sym h))) refl)
add_in p q (x ∷ []) = by (nat_eq p x.0) (nat_eq q x.0) refl refl where
  by : (a b : Bool) → nat_eq p x.0 ≡ a → nat_eq q x.0 ≡ b
      → counted_in q (if a then (x.0, suc x.1) ∷ [] else x ∷ (p, 1) ∷ []) ≡ add_last p (if b then (x.0, suc x.1) ∷ [] else (q, 1) ∷ x ∷ [])
  by true true ea eb = rw (eb, ea) refl
  by true false ea eb = rw (eb, ea) refl
  by false true ea eb = rw (eb, ea) refl
  by false false ea eb = rw (eb, ea) refl
add_in p q (x ∷ y ∷ more) = by (nat_eq q x.0) where
  by : (b : Bool) → (if b then (x.0, suc x.1) ∷ add_last p (y ∷ more) else (q, 1) ∷ x ∷ add_last p (y ∷ more)) ≡ add_last p (if b then (x.0, suc x.1) ∷ y ∷ more else (q, 1) ∷ x ∷ y ∷ more)
  by true = refl
  by false = refl

pub together_last : (before : List ℕ) (p : ℕ) → counted_together (before ++ p ∷ []) ≡ add_last p (counted_together before)
together_last [] p = refl
together_last (q ∷ before) p = ap (counted_in q) (together_last before p) ∙ add_in p q (counted_together before)

-- ---- so many times
abbrev pub add_many : ℕ → ℕ → List (ℕ × ℕ) → List (ℕ × ℕ)
add_many p k [] = (p, k) ∷ []
add_many p k (x ∷ []) = if nat_eq p x.0 then (x.0, x.1 + k) ∷ [] else x ∷ (p, k) ∷ []
add_many p k (x ∷ y ∷ more) = x ∷ add_many p k (y ∷ more)

add_one : (p : ℕ) (xs : List (ℕ × ℕ)) → add_last p xs ≡ add_many p 1 xs
add_one p [] = refl
add_one p (x ∷ []) = ap (λ n. if nat_eq p x.0 then (x.0, n) ∷ [] else x ∷ (p, 1) ∷ []) (let e : suc x.1 ≡ x.1 + 1 = omega arith in e)
add_one p (x ∷ y ∷ more) = ap (λ (ys : List (ℕ × ℕ)). x ∷ ys) (add_one p (y ∷ more))

last_of_one : (p k : ℕ) → add_last p ((p, k) ∷ []) ≡ (p, suc k) ∷ []
last_of_one p k = if_yes (nat_eq p p) ((p, suc k) ∷ []) ((p, k) ∷ (p, 1) ∷ []) (eq-eqb p p refl)

last_behind : (p : ℕ) (x : ℕ × ℕ) (ys : List (ℕ × ℕ)) → 0 < length ys → add_last p (x ∷ ys) ≡ x ∷ add_last p ys
last_behind p x [] some = absurd (omega (arith, some))
last_behind p x (y ∷ ys) some = refl

some_many : (p k : ℕ) (xs : List (ℕ × ℕ)) → 0 < length (add_many p k xs)
some_many p k [] = omega arith
some_many p k (x ∷ []) = by (nat_eq p x.0) where
  by : (b : Bool) → 0 < length (if b then (x.0, x.1 + k) ∷ [] else x ∷ (p, k) ∷ [])
  by true = omega arith
  by false = omega arith
some_many p k (x ∷ y ∷ more) = omega arith

add_more : (p k : ℕ) (xs : List (ℕ × ℕ)) → add_last p (add_many p k xs) ≡ add_many p (suc k) xs
add_more p k [] = last_of_one p k
add_more p k (x ∷ []) = by (nat_eq p x.0) refl where
  by : (b : Bool) → nat_eq p x.0 ≡ b → add_last p (if b then (x.0, x.1 + k) ∷ [] else x ∷ (p, k) ∷ []) ≡ (if b then (x.0, x.1 + suc k) ∷ [] else x ∷ (p, suc k) ∷ [])
  by true e = rw e (ap (λ n. (x.0, n) ∷ []) (let f : suc (x.1 + k) ≡ x.1 + suc k = omega arith in f))
  by false e = ap (λ (ys : List (ℕ × ℕ)). x ∷ ys) (last_of_one p k)
add_more p k (x ∷ y ∷ more) = last_behind p x (add_many p k (y ∷ more)) (some_many p k (y ∷ more)) ∙ ap (λ (ys : List (ℕ × ℕ)). x ∷ ys) (add_more p k (y ∷ more))

pub one_after : (k p : ℕ) → replicate k p ++ p ∷ [] ≡ replicate (suc k) p
one_after zero p = refl
one_after (suc k) p = ap (λ ps. p ∷ ps) (one_after k p)

together_many : (before : List ℕ) (k p : ℕ) → counted_together (before ++ replicate (suc k) p) ≡ add_many p (suc k) (counted_together before)
together_many before zero p = together_last before p ∙ add_one p (counted_together before)
together_many before (suc k) p =
    ap (λ ps. counted_together (before ++ ps)) (sym (one_after (suc k) p))
    ∙ (ap counted_together (sym (append_assoc before (replicate (suc k) p) (p ∷ [])))
    ∙ (together_last (before ++ replicate (suc k) p) p ∙ (ap (add_last p) (together_many before k p) ∙ add_more p (suc k) (counted_together before))))

pub together_some : (before : List ℕ) (n p : ℕ) → 0 < n → counted_together (before ++ replicate n p) ≡ add_many p n (counted_together before)
together_some before zero p some = absurd (omega (arith, some))
together_some before (suc k) p some = together_many before k p

-- the last one is of the same place
pub add_same : (xs : List (ℕ × ℕ)) (n p k : ℕ) (r : ℕ × ℕ) → length xs ≡ suc n → r ≡ get_or xs n r → r.0 ≡ p → set xs n (p, r.1 + k) ≡ add_many p k xs
add_same [] n p k r many is e = absurd (omega (arith, many))
add_same (x ∷ []) zero p k r many is e =
    let same : p ≡ x.0 = sym e ∙ ap (λ (y : ℕ × ℕ). y.0) is in
    let count : r.1 + k ≡ x.1 + k = ap (λ (y : ℕ × ℕ). y.1 + k) is in
    ap (λ j. (j, r.1 + k) ∷ []) same ∙ (ap (λ j. (x.0, j) ∷ []) count ∙ sym (if_yes (nat_eq p x.0) ((x.0, x.1 + k) ∷ []) (x ∷ (p, k) ∷ []) (eq-eqb p x.0 same)))
add_same (x ∷ []) (suc n) p k r many is e = absurd (omega (arith, many))
add_same (x ∷ y ∷ more) zero p k r many is e = absurd (omega (arith, many))
add_same (x ∷ y ∷ more) (suc n) p k r many is e = ap (λ (ys : List (ℕ × ℕ)). x ∷ ys) (add_same (y ∷ more) n p k r (omega (arith, many)) is e)

-- the last one is of another place
pub add_other : (xs : List (ℕ × ℕ)) (n p k : ℕ) (r : ℕ × ℕ) → length xs ≡ suc n → r ≡ get_or xs n r → r.0 ≢ p → xs ++ (p, k) ∷ [] ≡ add_many p k xs
add_other [] n p k r many is apart = absurd (omega (arith, many))
add_other (x ∷ []) zero p k r many is apart =
    sym (if_no (nat_eq p x.0) ((x.0, x.1 + k) ∷ []) (x ∷ (p, k) ∷ []) (ne_eqb p x.0 (λ h. apart (ap (λ (y : ℕ × ℕ). y.0) is ∙ sym h))))
add_other (x ∷ []) (suc n) p k r many is apart = absurd (omega (arith, many))
add_other (x ∷ y ∷ more) zero p k r many is apart = absurd (omega (arith, many))
add_other (x ∷ y ∷ more) (suc n) p k r many is apart = ap (λ (ys : List (ℕ × ℕ)). x ∷ ys) (add_other (y ∷ more) n p k r (omega (arith, many)) is apart)

pub add_first : (xs : List (ℕ × ℕ)) (p k : ℕ) → length xs ≡ 0 → xs ++ (p, k) ∷ [] ≡ add_many p k xs
add_first [] p k none = refl
add_first (x ∷ xs) p k none = absurd (omega (arith, none))
