-- Sums over numbers, and how many references there are.
use Rattle.sharc_invariant.proofs.Imports.{◌≡◌, ℕ, zero, suc, ◌+◌, ◌<◌, refl, sym, ap, ⊎_elim, arith, cases_eq, one, sum_to, ne_eq, eq_refl}

pub sum_ext : (n : ℕ) (f g : ℕ → ℕ) → ((j : ℕ) → j < n → g j ≡ f j) → sum_to n g ≡ sum_to n f
sum_ext zero f g h = refl
sum_ext (suc n) f g h = let a = h n (omega arith) in let b = sum_ext n f g (λ j lt. h j (omega arith)) in omega arith

pub sum_one : (n k : ℕ) (f g : ℕ → ℕ) → k < n → ((j : ℕ) → (j ≡ k → ⊥) → g j ≡ f j) → sum_to n g + f k ≡ sum_to n f + g k
sum_one zero k f g lt h = absurd (omega arith)
sum_one (suc n) k f g lt h = ⊎_elim
    (λ (e : k ≡ n). let b = sum_ext n f g (λ j l. h j (λ i. omega arith)) in let c : f k ≡ f n = ap f e in let d : g k ≡ g n = ap g e in omega arith)
    (λ (ne : k ≡ n → ⊥). let b = sum_one n k f g (omega arith) h in let c = h n (λ i. ne (sym i)) in omega arith)
    (cases_eq k n)

pub one_same : (o : ℕ) → one o o ≡ 1
one_same o = rw (eq_refl o) refl

pub one_other : (x o : ℕ) → (x ≡ o → ⊥) → one x o ≡ 0
one_other x o ne = rw (ne_eq x o ne) refl

pub sum_zero : (n : ℕ) (f : ℕ → ℕ) → ((j : ℕ) → f j ≡ 0) → sum_to n f ≡ 0
sum_zero zero f h = refl
sum_zero (suc n) f h = let a = h n in let b = sum_zero n f h in omega arith
