-- Functions changed at one place.
use Rattle.sharc_code.proofs.Imports.{◌≡◌, ℕ, refl, sym, subst, ⊎_elim, cases_eq, put, ne_eq, eq_refl}

pub put_same : {A : Type 0} (f : ℕ → A) (i : ℕ) (v : A) → put f i v i ≡ v
put_same f i v = rw (eq_refl i) refl

pub put_other : {A : Type 0} (f : ℕ → A) (i j : ℕ) (v : A) → (j ≡ i → ⊥) → put f i v j ≡ f j
put_other f i j v ne = rw (ne_eq j i ne) refl

-- what holds of the new value here and of the old ones elsewhere holds everywhere
pub put_all : {A : Type 0} (P : ℕ → A → Type 0) (f : ℕ → A) (i : ℕ) (v : A) → P i v → ((j : ℕ) → (j ≡ i → ⊥) → P j (f j)) → (j : ℕ) → P j (put f i v j)
put_all P f i v here there j = ⊎_elim
    (λ (e : j ≡ i). subst (λ k. P k (put f i v k)) (sym e) (subst (P i) (sym (put_same f i v)) here))
    (λ (ne : j ≡ i → ⊥). subst (P j) (sym (put_other f i j v ne)) (there j ne))
    (cases_eq j i)
