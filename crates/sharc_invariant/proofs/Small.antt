-- How many references there can be.
use Rattle.sharc_invariant.proofs.{Imports.{◌≡◌, ℕ, ◌≤◌, ap, ◌∙◌, ⊎_elim, arith, cases_eq, one, sum_to, TypedReference, RegisterOf, ArgumentOf, LogOf, Staged, Slot, In, CellOf as Cell, Size, total, most_references}, Sums.{one_same, one_other}, Clears.{sum_bound as sum_low}}

pub one_low : (x o : ℕ) → one x o ≤ 1
one_low x o = ⊎_elim
    (λ (e : x ≡ o). let y : one x o ≡ 1 = ap (λ n. one n o) e ∙ one_same o in omega arith)
    (λ (ne : x ≡ o → ⊥). let y = one_other x o ne in omega arith)
    (cases_eq x o)

pub total_low : (z : Size) (f : Slot → TypedReference) (o : ℕ) → total z f o ≤ most_references z
unfolding total
total_low z f o =
    let a = sum_low z.threads z.regs (λ t. sum_to z.regs (λ r. one (f (In (RegisterOf t r))).reference o)) (λ t. let y = sum_low z.regs 1 (λ r. one (f (In (RegisterOf t r))).reference o) (λ r. one_low (f (In (RegisterOf t r))).reference o) in omega arith) in
    let b = sum_low z.threads 1 (λ t. one (f (In (ArgumentOf t))).reference o) (λ t. one_low (f (In (ArgumentOf t))).reference o) in
    let c = sum_low z.threads z.log (λ t. sum_to z.log (λ i. one (f (In (LogOf t i))).reference o)) (λ t. let y = sum_low z.log 1 (λ i. one (f (In (LogOf t i))).reference o) (λ i. one_low (f (In (LogOf t i))).reference o) in omega arith) in
    let e = sum_low z.threads 1 (λ t. one (f (In (Staged t))).reference o) (λ t. one_low (f (In (Staged t))).reference o) in
    let d = sum_low z.objects z.cells (λ p. sum_to z.cells (λ i. one (f (Cell p i)).reference o)) (λ p. let y = sum_low z.cells 1 (λ i. one (f (Cell p i)).reference o) (λ i. one_low (f (Cell p i)).reference o) in omega arith) in
    omega arith
