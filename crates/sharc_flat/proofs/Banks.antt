-- Banks of registers that hold a list from their first register on, and NULL after it.
use Rattle.sharc_flat.proofs.Imports.{◌≡◌, ℕ, ◌+◌, ◌<◌, ◌≤◌, List, [], ◌∷◌, ◌++◌, length, get_or, refl, sym, ap, ◌∙◌, subst, ⊎_elim, arith, length-append, cases_eq, cases_lt, get_or-set_same, get_or-set_other, get_or_past, get_or_at, set_at, get_or_append_left, ℤ, pos, set, ◌==◌, put, eqb_same, eqb_other}

pub put_same : (bank : ℕ → ℤ) (r : ℕ) (v : ℤ) → put bank r v r ≡ v
put_same bank r v = rw (eqb_same r) refl

pub put_at : (bank : ℕ → ℤ) (r k : ℕ) (v : ℤ) → k ≡ r → put bank r v k ≡ v
put_at bank r k v e = subst (λ n. put bank r v n ≡ v) (sym e) (put_same bank r v)

pub put_other : (bank : ℕ → ℤ) (r : ℕ) (v : ℤ) (k : ℕ) → (k ≡ r → ⊥) → put bank r v k ≡ bank k
put_other bank r v k ne = rw (eqb_other k r ne) refl

abbrev pub Bank : (ℕ → ℤ) → List ℤ → Type 0
Bank bank xs = (k : ℕ) → bank k ≡ get_or xs k (pos 0)

pub bank_set : (bank : ℕ → ℤ) (xs : List ℤ) (n : ℕ) (v : ℤ) → n < length xs → Bank bank xs → Bank (put bank n v) (set xs n v)
bank_set bank xs n v lt h k = ⊎_elim
    (λ (e : k ≡ n). put_at bank n k v e ∙ sym (ap (λ i. get_or (set xs n v) i (pos 0)) e ∙ get_or-set_same xs n v (pos 0) lt))
    (λ (ne : k ≡ n → ⊥). put_other bank n v k ne ∙ h k ∙ sym (get_or-set_other xs n k v (pos 0) ne))
    (cases_eq k n)

-- the one after all
pub bank_push : (bank : ℕ → ℤ) (xs : List ℤ) (n : ℕ) (v : ℤ) → n ≡ length xs → Bank bank xs → Bank (put bank n v) (xs ++ v ∷ [])
bank_push bank xs n v e h k = ⊎_elim
    (λ (is : k ≡ n). put_at bank n k v is ∙ sym (get_or_at xs v [] (pos 0) k (sym (is ∙ e))))
    (λ (ne : k ≡ n → ⊥). put_other bank n v k ne ∙ h k ∙ ⊎_elim
    (λ (lt : k < length xs). sym (get_or_append_left xs (v ∷ []) (pos 0) k lt))
    (λ (le : length xs ≤ k).
    let more : length xs + 1 ≤ k = omega arith in
    let all : length (xs ++ v ∷ []) ≤ k = omega (arith, length-append xs (v ∷ [])) in
    get_or_past xs k (pos 0) le ∙ sym (get_or_past (xs ++ v ∷ []) k (pos 0) all))
    (cases_lt k (length xs)))
    (cases_eq k n)

pub bank_pop : (bank : ℕ → ℤ) (xs : List ℤ) (n : ℕ) (v : ℤ) → n ≡ length xs → Bank bank (xs ++ v ∷ []) → Bank (put bank n (pos 0)) xs
bank_pop bank xs n v e h k = ⊎_elim
    (λ (is : k ≡ n). put_at bank n k (pos 0) is ∙ sym (get_or_past xs k (pos 0) (omega arith)))
    (λ (ne : k ≡ n → ⊥). put_other bank n (pos 0) k ne ∙ h k ∙ ⊎_elim
    (λ (lt : k < length xs). get_or_append_left xs (v ∷ []) (pos 0) k lt)
    (λ (le : length xs ≤ k).
    let all : length (xs ++ v ∷ []) ≤ k = omega (arith, length-append xs (v ∷ [])) in
    get_or_past (xs ++ v ∷ []) k (pos 0) all ∙ sym (get_or_past xs k (pos 0) le))
    (cases_lt k (length xs)))
    (cases_eq k n)

pub bank_at : (bank : ℕ → ℤ) (xs : List ℤ) (v : ℤ) (ys : List ℤ) (n : ℕ) → n ≡ length xs → Bank bank (xs ++ v ∷ ys) → bank n ≡ v
bank_at bank xs v ys n e h = h n ∙ get_or_at xs v ys (pos 0) n (sym e)

pub bank_put : (bank : ℕ → ℤ) (xs : List ℤ) (v w : ℤ) (ys : List ℤ) (n : ℕ) → n ≡ length xs → Bank bank (xs ++ v ∷ ys) → Bank (put bank n w) (xs ++ w ∷ ys)
bank_put bank xs v w ys n e h =
    let lt : n < length (xs ++ v ∷ ys) = omega (arith, length-append xs (v ∷ ys)) in
    subst (Bank (put bank n w)) (set_at xs v ys w n (sym e)) (bank_set bank (xs ++ v ∷ ys) n w lt h)

pub bank_is : (bank : ℕ → ℤ) (xs ys : List ℤ) → xs ≡ ys → Bank bank xs → Bank bank ys
bank_is bank xs ys e h = subst (Bank bank) e h
