-- A sum of which one value grows.
use Rattle.sharc_history_laws.proofs.Imports.{◌≡◌, ℕ, zero, suc, ◌+◌, ◌<◌, ◌≤◌, ap, ◌∙◌, ⊎_elim, arith, cases_eq, put, put_same, put_other, sum_to, sum_grows}

pub sum_more : (n : ℕ) (f : ℕ → ℕ) (i more : ℕ) → i < n → sum_to n f + more ≤ sum_to n (put f i (f i + more))
sum_more zero f i more lt = absurd (omega arith)
sum_more (suc n) f i more lt =
    ⊎_elim
    (λ (e : n ≡ i).
    let rest = sum_grows n f i more in
    let a : put f i (f i + more) n ≡ f i + more = ap (λ j. put f i (f i + more) j) e ∙ put_same f i (f i + more) in
    let b : f n ≡ f i = ap f e in omega arith)
    (λ (ne : n ≡ i → ⊥). let rest = sum_more n f i more (omega arith) in let a = put_other f i n (f i + more) ne in omega arith)
    (cases_eq n i)
